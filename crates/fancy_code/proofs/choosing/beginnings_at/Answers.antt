use Rattle.std.proofs.Common.{◌≡◌, ◌∙◌, ℕ, sym, subst}
use Rattle.fancy_code.specs.Choices.{BeginsAmong}
use Rattle.fancy_code.specs.Code.{instrs_of}
use Rattle.fancy_code.specs.Instructions.{Split}
use Rattle.fancy_code.specs.Run.{instr_at}
use Rattle.fancy_code.proofs.ChoosingLemmas.{beside_first, beside_second}
use Rattle.fancy_code.proofs.choosing.beginnings_at.Goals as goal
use Rattle.fancy_code.proofs.choosing.beginnings_at.Goals.{in-Some-item_loop, in-None}

pub returns-clause-begin : goal.returns-clause-begin
returns-clause-begin c first second is =
    let same : Split c.in-Some.ways.first c.in-Some.ways.second ≡ Split first second = sym c.in-Some.ensures ∙ is in (
      subst (λ (q : ℕ). BeginsAmong (instrs_of c.args.code.now) c.args.code.now.meaning c.in_ok-first.first q) (cc) c.in_ok-first.ensures,
      subst (λ (q : ℕ). BeginsAmong (instrs_of c.args.code.now) c.args.code.now.meaning c.in_ok-second.second q) (cc) c.in_ok-second.ensures,
    )

pub returns-clause-round : goal.returns-clause-round
returns-clause-round c l is =
    let i = instr_at (instrs_of c.args.code.now) c.args.at in
    elim c.match-item_loop.branch [
      | in-Some-item_loop w ↦
          c.item_loop.ensures l (w.in-Some-item_loop.is ∙ sym w.item_loop-is ∙ is) c.in-Some.ways.second (beside_first i c.in-Some.ways.first c.in-Some.ways.second c.in-Some.ensures) c.in_ok-second.ensures
      | in-None w ↦
          w.item_loop-item_loop.ensures l (sym w.item_loop-is ∙ is) c.in-Some.ways.first (beside_second i c.in-Some.ways.first c.in-Some.ways.second c.in-Some.ensures) c.in_ok-first.ensures
    ]
