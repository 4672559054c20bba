use Rattle.std.proofs.Common.{ℕ, ◌∙◌, ◌+◌, Err, ap, arith, refl}
use Rattle.fancy_trail.specs.Ways.{at_place}
use Rattle.fancy_machine.proofs.ChoiceLemmas.{all_die, goes_past, reads_past, saves_one, one_ahead, choices_ahead, returns_ahead}
use Rattle.fancy_machine.proofs.WentLemmas.{takes_none, went_refused}
use Rattle.fancy_machine.proofs.WorkLemmas.{returns_of_step}
use Rattle.fancy_machine.proofs.choice.choose.Goals as goal

pub returns-in_err-save-clause-went : goal.returns-in_err-save-clause-went
returns-in_err-save-clause-went c best = went_refused c.from_residual.result _ c.from_residual.ensures.1
    (takes_none c.args.attempt.now c.args.trail.now best _ _ (returns_of_step c.args.work.now c.count_step_within.new.self c.count_step_within.ensures))
    (λ is. absurd (c.in_err-save.ensures.refused (ap Err is)))
    (λ is deep goal total choices r s.
    let few = one_ahead c.args.attempt.now c.args.choice.now c.args.trail.now c.requires.told best deep goal total choices r s in
    let full = c.in_err-save.ensures.full (ap Err is) in
    omega (arith, few, full)) c.save.ensures.most

pub returns-in_default-clause-went : goal.returns-in_default-clause-went
returns-in_default-clause-went c best = record {
  advanced = λ deep goal total choices r s.
      saves_one c.args.attempt.now c.args.choice.now c.args.trail.now c.requires.told best deep goal total choices r s c.go.new.self
      (rw c.save.ensures.now at c.go.ensures.now) (c.go.ensures.frames ∙ c.in_ok-save.ensures.laid) _ (omega (arith, returns_of_step c.args.work.now c.count_step_within.new.self c.count_step_within.ensures));
  bounded = takes_none c.args.attempt.now c.args.trail.now best _ _ (returns_of_step c.args.work.now c.count_step_within.new.self c.count_step_within.ensures);
  refused = λ e. absurd (cc);
  crowded = λ e. absurd (cc);
  most = c.go.ensures.most ∙ c.save.ensures.most;
}

pub returns-in_err-count_returns-clause-went : goal.returns-in_err-count_returns-clause-went
returns-in_err-count_returns-clause-went c best = went_refused c.from_residual-in_err-count_returns.result _ c.from_residual-in_err-count_returns.ensures.1
    (λ deep goal total choices s.
    let all = returns_ahead c.args.attempt.now c.args.choice.now c.args.trail.now c.requires.told best deep goal total choices _ s c.in-Some.passage.now c.in-Some.ensures.taken in
    omega (arith, all, c.count_returns.ensures.adds.most, returns_of_step c.args.work.now c.count_step_within.new.self c.count_step_within.ensures))
    (λ is deep goal total choices s.
    let all = returns_ahead c.args.attempt.now c.args.choice.now c.args.trail.now c.requires.told best deep goal total choices _ s c.in-Some.passage.now c.in-Some.ensures.taken in
    let past = c.in_err-count_returns.ensures.refused (ap Err is) in
    omega (arith, all, past, returns_of_step c.args.work.now c.count_step_within.new.self c.count_step_within.ensures))
    (λ is. absurd (c.in_err-count_returns.ensures.saved (ap Err is))) refl

pub returns-in-Ends-clause-went : goal.returns-in-Ends-clause-went
returns-in-Ends-clause-went c best = record {
  advanced = λ deep goal total choices r s.
      all_die c.args.attempt.now c.args.choice.now c.args.trail.now c.requires.told best deep goal total choices r s c.in-Some.passage.now c.in-Some.ensures.taken c.in-Ends.is c.args.trail.now refl _ (omega (arith, c.in_ok-count_returns.ensures.counted, returns_of_step c.args.work.now c.count_step_within.new.self c.count_step_within.ensures));
  bounded = λ deep goal total choices s.
      let all = returns_ahead c.args.attempt.now c.args.choice.now c.args.trail.now c.requires.told best deep goal total choices _ s c.in-Some.passage.now c.in-Some.ensures.taken in
      omega (arith, all, c.count_returns.ensures.adds.most, returns_of_step c.args.work.now c.count_step_within.new.self c.count_step_within.ensures);
  refused = λ e. absurd (cc);
  crowded = λ e. absurd (cc);
  most = refl;
}

pub returns-in_err-save_ways-in-Goes-clause-went : goal.returns-in_err-save_ways-in-Goes-clause-went
returns-in_err-save_ways-in-Goes-clause-went c best = went_refused c.from_residual-in_err-save_ways-in-Goes.result _ c.from_residual-in_err-save_ways-in-Goes.ensures.1
    (λ deep goal total choices s.
    let all = returns_ahead c.args.attempt.now c.args.choice.now c.args.trail.now c.requires.told best deep goal total choices _ s c.in-Some.passage.now c.in-Some.ensures.taken in
    omega (arith, all, c.count_returns.ensures.adds.most, returns_of_step c.args.work.now c.count_step_within.new.self c.count_step_within.ensures))
    (λ is. absurd (c.in_err-save_ways-in-Goes.ensures.refused (ap Err is)))
    (λ is deep goal total choices r s.
    let few = choices_ahead c.args.attempt.now c.args.choice.now c.args.trail.now c.requires.told best deep goal total choices r s c.in-Some.passage.now c.in-Some.ensures.taken in
    let full = c.in_err-save_ways-in-Goes.ensures.full (ap Err is) in
    omega (arith, few, full)) c.save_ways.ensures.most

pub returns-in_ok-save_ways-in-Goes-clause-went : goal.returns-in_ok-save_ways-in-Goes-clause-went
returns-in_ok-save_ways-in-Goes-clause-went c best = record {
  advanced = λ deep goal total choices r s.
      goes_past c.args.attempt.now c.args.choice.now c.args.trail.now c.requires.told best deep goal total choices r s c.in-Some.passage.now c.in-Some.ensures.taken c.in-Goes.to c.in-Goes.is c.go-in-Goes.new.self
      (rw c.save_ways.ensures.now at c.go-in-Goes.ensures.now) (c.go-in-Goes.ensures.frames ∙ c.in_ok-save_ways-in-Goes.ensures.laid) _ (omega (arith, c.in_ok-count_returns.ensures.counted, returns_of_step c.args.work.now c.count_step_within.new.self c.count_step_within.ensures));
  bounded = λ deep goal total choices s.
      let all = returns_ahead c.args.attempt.now c.args.choice.now c.args.trail.now c.requires.told best deep goal total choices _ s c.in-Some.passage.now c.in-Some.ensures.taken in
      omega (arith, all, c.count_returns.ensures.adds.most, returns_of_step c.args.work.now c.count_step_within.new.self c.count_step_within.ensures);
  refused = λ e. absurd (cc);
  crowded = λ e. absurd (cc);
  most = c.go-in-Goes.ensures.most ∙ c.save_ways.ensures.most;
}

pub returns-in_err-save_ways-in-Reads-clause-went : goal.returns-in_err-save_ways-in-Reads-clause-went
returns-in_err-save_ways-in-Reads-clause-went c best = went_refused c.from_residual-in_err-save_ways-in-Reads.result _ c.from_residual-in_err-save_ways-in-Reads.ensures.1
    (λ deep goal total choices s.
    let all = returns_ahead c.args.attempt.now c.args.choice.now c.args.trail.now c.requires.told best deep goal total choices _ s c.in-Some.passage.now c.in-Some.ensures.taken in
    omega (arith, all, c.count_returns.ensures.adds.most, returns_of_step c.args.work.now c.count_step_within.new.self c.count_step_within.ensures))
    (λ is. absurd (c.in_err-save_ways-in-Reads.ensures.refused (ap Err is)))
    (λ is deep goal total choices r s.
    let few = choices_ahead c.args.attempt.now c.args.choice.now c.args.trail.now c.requires.told best deep goal total choices r s c.in-Some.passage.now c.in-Some.ensures.taken in
    let full = c.in_err-save_ways-in-Reads.ensures.full (ap Err is) in
    omega (arith, few, full)) c.save_ways-in-Reads.ensures.most

pub returns-in_ok-save_ways-in-Reads-clause-went : goal.returns-in_ok-save_ways-in-Reads-clause-went
returns-in_ok-save_ways-in-Reads-clause-went c best = record {
  advanced = λ deep goal total choices r s.
      reads_past c.args.attempt.now c.args.choice.now c.args.trail.now c.requires.told best deep goal total choices r s c.in-Some.passage.now c.in-Some.ensures.taken c.in-Reads.to c.in-Reads.is c.go_to.new.self
      ((rw c.save_ways-in-Reads.ensures.now at c.go_to.ensures.now) ∙ ap (λ (p : ℕ). at_place c.in-Reads.to (p + 1) c.args.trail.now.now) c.place-past.ensures) (c.go_to.ensures.frames ∙ c.in_ok-save_ways-in-Reads.ensures.laid) _ (omega (arith, c.in_ok-count_returns.ensures.counted, returns_of_step c.args.work.now c.count_step_within.new.self c.count_step_within.ensures));
  bounded = λ deep goal total choices s.
      let all = returns_ahead c.args.attempt.now c.args.choice.now c.args.trail.now c.requires.told best deep goal total choices _ s c.in-Some.passage.now c.in-Some.ensures.taken in
      omega (arith, all, c.count_returns.ensures.adds.most, returns_of_step c.args.work.now c.count_step_within.new.self c.count_step_within.ensures);
  refused = λ e. absurd (cc);
  crowded = λ e. absurd (cc);
  most = c.go_to.ensures.most ∙ c.save_ways-in-Reads.ensures.most;
}
