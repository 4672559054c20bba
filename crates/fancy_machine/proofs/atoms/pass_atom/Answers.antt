use Rattle.std.proofs.Common.{◌+◌, ◌≤◌, ◌∷◌, ◌∙◌, ℕ, List, Option, IfSome, Err, true≢false, refl, sym, ap, ap₂, subst, arith}
use Rattle.fancy_input.specs.declared.refusal.SearchRefusal.TheVariants.{Choices}
use Rattle.fancy_machine.specs.declared.atoms.Whole.{Whole}
use Rattle.fancy_machine.specs.Atoms.{ReadsAll}
use Rattle.fancy_trail.specs.Frames.{Atom, Frame, Spot, Within, saved}
use Rattle.fancy_trail.specs.Ways.{at_place}
use Rattle.fancy_machine.proofs.AtomLemmas.{lays, lays_later, goes_out, returns_out, choices_out}
use Rattle.fancy_machine.proofs.WentLemmas.{takes_none, went_refused}
use Rattle.fancy_machine.proofs.WorkLemmas.{returns_of_step, returns_same}
use Rattle.fancy_machine.proofs.atoms.pass_atom.Goals as goal

pub returns-in_default-clause-went : goal.returns-in_default-clause-went
returns-in_default-clause-went c best = record {
  advanced = λ deep goal total choices r s.
      lays c.args.attempt.now c.args.atom.now c.args.trail.now c.requires.told best deep goal total choices r s c.go.new.self (rw c.enter.ensures.now at c.go.ensures.now) (c.go.ensures.frames ∙ c.in_ok-enter.ensures.laid) _
      (omega (arith, (returns_of_step c.args.work.now c.count_step_within.new.self c.count_step_within.ensures)));
  bounded = takes_none c.args.attempt.now c.args.trail.now best _ _ (returns_of_step c.args.work.now c.count_step_within.new.self c.count_step_within.ensures);
  refused = λ e. absurd (cc);
  crowded = λ e. absurd (cc);
  most = c.go.ensures.most ∙ c.enter.ensures.most;
}

pub returns-in_default-2-clause-went : goal.returns-in_default-2-clause-went
returns-in_default-2-clause-went c best = record {
  advanced = λ deep goal total choices r s.
      let limit = ap (λ (x : Spot). x.limit) c.go_to.ensures.now in
      let frames = ap₂ (λ (m : ℕ) (fs : List Frame). Within (Atom m) ∷ fs) limit c.go_to.ensures.frames in
      lays_later c.args.attempt.now c.args.atom.now c.args.trail.now c.requires.told best deep goal total choices r s c.in-Some.from c.in-Some.ensures c.go_to.new.self.now c.go_to.ensures.now c.enter-in_default-2.new.self c.enter-in_default-2.ensures.now
      (c.in_ok-enter-2.ensures.laid ∙ frames) _ (omega (arith, (returns_same c.args.work.now c.count_step_within.new.self c.read_whole.new.work c.count_step_within.ensures c.read_whole.ensures.units.adds)));
  bounded = takes_none c.args.attempt.now c.args.trail.now best _ _ (returns_same c.args.work.now c.count_step_within.new.self c.read_whole.new.work c.count_step_within.ensures c.read_whole.ensures.units.adds);
  refused = λ e. absurd (cc);
  crowded = λ e. absurd (cc);
  most = c.enter-in_default-2.ensures.most ∙ c.go_to.ensures.most;
}

pub returns-then-not-has_room_for-clause-went : goal.returns-then-not-has_room_for-clause-went
returns-then-not-has_room_for-clause-went c best = went_refused (Err Choices) Choices refl (takes_none c.args.attempt.now c.args.trail.now best _ _ (returns_same c.args.work.now c.count_step_within.new.self c.read_whole.new.work c.count_step_within.ensures c.read_whole.ensures.units.adds)) (λ is. absurd (cc))
    (λ _ deep goal total choices r s.
    let few = choices_out c.args.attempt.now c.args.atom.now c.args.trail.now c.requires.told best deep goal total choices r s c.in-Some.from c.in-Some.ensures c.go_to.new.self.now c.go_to.ensures.now c.in-Some-2.whole (subst (λ (o : Option Whole). IfSome o (ReadsAll c.args.attempt.now c.go_to.new.self.now)) c.in-Some-2.is c.in_ok-whole.ensures.read) in
    let full : saved c.go_to.new.self.frames + (c.in-Some-2.whole.count + 1) ≤ c.go_to.new.self.most → ⊥ = λ le. absurd (true≢false (sym (c.has_room_for.ensures.1 le) ∙ c.if-not-has_room_for.true)) in
    let saves = ap saved c.go_to.ensures.frames in
    omega (arith, few, full, saves, c.go_to.ensures.most)) c.go_to.ensures.most

pub returns-in_err-count_returns-clause-went : goal.returns-in_err-count_returns-clause-went
returns-in_err-count_returns-clause-went c best = went_refused c.from_residual-in_err-count_returns.result _ c.from_residual-in_err-count_returns.ensures.1
    (λ deep goal total choices s.
    let all = returns_out c.args.attempt.now c.args.atom.now c.args.trail.now c.requires.told best deep goal total choices _ s c.in-Some.from c.in-Some.ensures c.go_to.new.self.now c.go_to.ensures.now c.in-Some-2.whole (subst (λ (o : Option Whole). IfSome o (ReadsAll c.args.attempt.now c.go_to.new.self.now)) c.in-Some-2.is c.in_ok-whole.ensures.read) in
    omega (arith, all, c.count_returns.ensures.adds.most, (returns_same c.args.work.now c.count_step_within.new.self c.read_whole.new.work c.count_step_within.ensures c.read_whole.ensures.units.adds)))
    (λ is deep goal total choices s.
    let all = returns_out c.args.attempt.now c.args.atom.now c.args.trail.now c.requires.told best deep goal total choices _ s c.in-Some.from c.in-Some.ensures c.go_to.new.self.now c.go_to.ensures.now c.in-Some-2.whole (subst (λ (o : Option Whole). IfSome o (ReadsAll c.args.attempt.now c.go_to.new.self.now)) c.in-Some-2.is c.in_ok-whole.ensures.read) in
    let past = c.in_err-count_returns.ensures.refused (ap Err is) in
    omega (arith, all, past, (returns_same c.args.work.now c.count_step_within.new.self c.read_whole.new.work c.count_step_within.ensures c.read_whole.ensures.units.adds)))
    (λ is. absurd (c.in_err-count_returns.ensures.saved (ap Err is))) c.go_to.ensures.most

pub returns-clause-went : goal.returns-clause-went
returns-clause-went c best = record {
  advanced = λ deep goal total choices r s.
      goes_out c.args.attempt.now c.args.atom.now c.args.trail.now c.requires.told best deep goal total choices r s c.in-Some.from c.in-Some.ensures c.go_to.new.self.now c.go_to.ensures.now c.in-Some-2.whole (subst (λ (o : Option Whole). IfSome o (ReadsAll c.args.attempt.now c.go_to.new.self.now)) c.in-Some-2.is c.in_ok-whole.ensures.read) c.go_to-2.new.self c.go_to-2.ensures.now (c.go_to-2.ensures.frames ∙ c.go_to.ensures.frames) _
      (omega (arith, c.in_ok-count_returns.ensures.counted, (returns_same c.args.work.now c.count_step_within.new.self c.read_whole.new.work c.count_step_within.ensures c.read_whole.ensures.units.adds)));
  bounded = λ deep goal total choices s.
      let all = returns_out c.args.attempt.now c.args.atom.now c.args.trail.now c.requires.told best deep goal total choices _ s c.in-Some.from c.in-Some.ensures c.go_to.new.self.now c.go_to.ensures.now c.in-Some-2.whole (subst (λ (o : Option Whole). IfSome o (ReadsAll c.args.attempt.now c.go_to.new.self.now)) c.in-Some-2.is c.in_ok-whole.ensures.read) in
      omega (arith, all, c.count_returns.ensures.adds.most, (returns_same c.args.work.now c.count_step_within.new.self c.read_whole.new.work c.count_step_within.ensures c.read_whole.ensures.units.adds));
  refused = λ e. absurd (cc);
  crowded = λ e. absurd (cc);
  most = c.go_to-2.ensures.most ∙ c.go_to.ensures.most;
}
