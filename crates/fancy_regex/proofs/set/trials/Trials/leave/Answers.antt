use Rattle.std.proofs.Common.{◌≡◌, ◌∙◌, ℕ, length, slice_get, Some, ap, sym, subst, arith}
use Rattle.std.proofs.lemmas.Option.{slice_get-get_or}
use Rattle.fancy_regex.specs.declared.set.trials.Trials.{Trials}
use Rattle.fancy_regex.proofs.TrialLemmas.{held_fewer, held_of_last}
use Rattle.fancy_regex.proofs.set.trials.Trials.leave.Goals as goal

pub leave_notes-requires : goal.leave_notes-requires
leave_notes-requires c =
    let left : Trials = record c.members.self { notes = c.pop.new.self } in
    let member = c.in-Some-get.member.now in
    let lookup = c.in-Some-get.ensures.lookup in
    let size : c.len.result ≡ length c.pop.new.self.items = omega (arith, c.len.ensures, c.pop.new.self.ok.0) in
    let there : slice_get c.args.members.now c.len.result ≡ Some member = slice_get-get_or c.args.members.now c.len.result member lookup.3.0 ∙ ap Some (sym lookup.1) in
    record {
      steps = held_of_last c.args.members.now c.members.self left c.in-Some.held member c.in-Some-held.notes c.in-Some.ensures.items c.in-Some-held.is
          (subst (λ (k : ℕ). slice_get c.args.members.now k ≡ Some member) size there) c.members.invariant.holds;
    }

pub members-preserved-in-Some : goal.members-preserved-in-Some
members-preserved-in-Some c = record {
  holds = held_fewer c.args.members.now c.members.self (record c.members.self { notes = c.pop.new.self }) c.in-Some.held c.in-Some.ensures.items c.members.invariant.holds;
  cache = c.members.invariant.cache;
}

pub members-preserved : goal.members-preserved
members-preserved c = record {
  holds = held_fewer c.args.members.now c.members.self (record c.members.self { notes = c.pop.new.self }) c.in-Some.held c.in-Some.ensures.items c.members.invariant.holds;
  cache = c.members.invariant.cache;
}
