use Rattle.std.proofs.Common.{Err, ap, arith, refl, subst}
use Rattle.fancy_machine.specs.Denials.{IsSeen}
use Rattle.fancy_machine.proofs.DenialLemmas.{as_refused, found_dead, missed_on, not_missed, returns_missed}
use Rattle.fancy_machine.proofs.WentLemmas.{takes_none, went_refused}
use Rattle.fancy_machine.proofs.WorkLemmas.{returns_of_step}
use Rattle.fancy_machine.proofs.denials.pass_denial.Goals as goal

pub returns-in_default-clause-went : goal.returns-in_default-clause-went
returns-in_default-clause-went c best =
    let stepped = returns_of_step c.args.work.now c.count_step_within.new.self c.count_step_within.ensures in
    let seen = not_missed c.args.attempt.now c.args.denial.now c.args.trail.now.now.state.place c.args.sight c.requires.seen c.in_default.not-Misses in record {
      advanced = λ deep goal total choices r s.
          found_dead c.args.attempt.now c.args.denial.now c.args.trail.now c.requires.told best deep goal total choices r s seen c.args.trail.now refl _ (omega (arith, stepped));
      bounded = takes_none c.args.attempt.now c.args.trail.now best _ _ stepped;
      refused = λ e. absurd (cc);
      crowded = λ e. absurd (cc);
      most = refl;
    }

pub returns-in_err-count_returns-clause-went : goal.returns-in_err-count_returns-clause-went
returns-in_err-count_returns-clause-went c best =
    let stepped = returns_of_step c.args.work.now c.count_step_within.new.self c.count_step_within.ensures in
    let seen = subst (IsSeen c.args.attempt.now c.args.denial.now c.args.trail.now.now.state.place) c.in-Misses.is c.requires.seen in
    went_refused _ _ (as_refused c.from_residual.result _ c.from_residual.ensures.1)
    (λ deep goal total choices s.
    let all = returns_missed c.args.attempt.now c.args.denial.now c.args.trail.now c.requires.told best deep goal total choices _ s c.in-Misses.price seen in
    omega (arith, all, c.count_returns.ensures.adds.most, stepped))
    (λ is deep goal total choices s.
    let all = returns_missed c.args.attempt.now c.args.denial.now c.args.trail.now c.requires.told best deep goal total choices _ s c.in-Misses.price seen in
    let past = c.in_err-count_returns.ensures.refused (ap Err is) in
    omega (arith, all, past, stepped))
    (λ is. absurd (c.in_err-count_returns.ensures.saved (ap Err is))) refl

pub returns-clause-went : goal.returns-clause-went
returns-clause-went c best =
    let stepped = returns_of_step c.args.work.now c.count_step_within.new.self c.count_step_within.ensures in
    let seen = subst (IsSeen c.args.attempt.now c.args.denial.now c.args.trail.now.now.state.place) c.in-Misses.is c.requires.seen in record {
      advanced = λ deep goal total choices r s.
          missed_on c.args.attempt.now c.args.denial.now c.args.trail.now c.requires.told best deep goal total choices r s c.in-Misses.price seen c.go.new.self c.go.ensures.now c.go.ensures.frames _ (omega (arith, c.in_ok-count_returns.ensures.counted, stepped));
      bounded = λ deep goal total choices s.
          let all = returns_missed c.args.attempt.now c.args.denial.now c.args.trail.now c.requires.told best deep goal total choices _ s c.in-Misses.price seen in
          omega (arith, all, c.count_returns.ensures.adds.most, stepped);
      refused = λ e. absurd (cc);
      crowded = λ e. absurd (cc);
      most = c.go.ensures.most;
    }
