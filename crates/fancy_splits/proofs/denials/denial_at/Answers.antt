use Rattle.std.proofs.Common.{◌≡◌, Bool, true, false, ◌∙◌, ap, sym, subst}
use Rattle.fancy_code.specs.Code.{instr_in, instrs_of}
use Rattle.fancy_splits.specs.Denials.{AreSights}
use Rattle.fancy_splits.proofs.denials.denial_at.Goals as goal
use Rattle.fancy_splits.proofs.denials.denial_at.Goals.{then-behind+in_ok-sights, else-behind}

pub returns : goal.returns
returns c = record {
  denies = sym c.instr.ensures.instr ∙ ap (instr_in c.args.code.now) c.in-Deny.is;
  sights = elim c.if-behind.branch [
    | then-behind+in_ok-sights w ↦ of true w.if-behind.true (subst (AreSights (instrs_of c.args.code.now) c.args.code.now.meaning true c.in-Deny.body) (sym w.sights-is) w.in_ok-sights.ensures)
    | else-behind w ↦ of false w.if-behind.false (subst (AreSights (instrs_of c.args.code.now) c.args.code.now.meaning false c.in-Deny.body) (sym w.sights-is) w.sights_ahead-sights.ensures)
  ];
} where
  of : (behind : Bool) → c.in-Deny.behind ≡ behind → AreSights (instrs_of c.args.code.now) c.args.code.now.meaning behind c.in-Deny.body c.if-behind.sights
      → AreSights (instrs_of c.args.code.now) c.args.code.now.meaning c.in-Deny.behind c.in-Deny.body c.if-behind.sights
  of behind is = subst (λ (b : Bool). AreSights (instrs_of c.args.code.now) c.args.code.now.meaning b c.in-Deny.body c.if-behind.sights) (sym is)
