use Rattle.std.proofs.Common.{sym, subst, ℕ}
use Rattle.fancy_splits.specs.Splits.{IsNoted}
use Rattle.fancy_machine.proofs.PassLemmas.{run_known}
use Rattle.fancy_machine.proofs.runs.read_run.Goals as goal

pub returns-in-Some-clause-items : goal.returns-in-Some-clause-items
returns-in-Some-clause-items c = rw c.place-from.ensures at (c.in-Some.ensures.items c.args.attempt.now.splits.now c.args.attempt.now.haystack.now c.args.split.now c.requires.known (subst (λ (q : ℕ). IsNoted c.args.attempt.now.splits.now q c.args.split.now) (sym c.at-at.ensures) c.requires.noted))

pub returns-in_err-count_units-clause-known : goal.returns-in_err-count_units-clause-known
returns-in_err-count_units-clause-known c other noted =
    run_known c.args.attempt.now.splits.now c.args.attempt.now.haystack.now c.at-at.result c.place-from.result c.run_len-count.result c.args.split.now other (subst (λ (q : ℕ). IsNoted c.args.attempt.now.splits.now q c.args.split.now) (sym c.at-at.ensures) c.requires.noted) c.run_len-count.ensures.items noted

pub returns-in_ok-count_units-clause-items : goal.returns-in_ok-count_units-clause-items
returns-in_ok-count_units-clause-items c = rw c.place-from.ensures at c.run_len-count.ensures.items

pub returns-in_ok-count_units-clause-known : goal.returns-in_ok-count_units-clause-known
returns-in_ok-count_units-clause-known c other noted =
    run_known c.args.attempt.now.splits.now c.args.attempt.now.haystack.now c.at-at.result c.place-from.result c.run_len-count.result c.args.split.now other (subst (λ (q : ℕ). IsNoted c.args.attempt.now.splits.now q c.args.split.now) (sym c.at-at.ensures) c.requires.noted) c.run_len-count.ensures.items noted
