use Rattle.std.proofs.Common.{◌≡◌, ◌++◌, true, ◌∙◌, rules}
use Rattle.fancy_class.specs.ClassGrammar.{none_of}
use Rattle.fancy_class.proofs.ChainLemmas.{changed_on}
use Rattle.fancy_class.proofs.chain.Change.+of_steps.Goals as goal

pub returns-in_ok-of-in_default-2 : goal.returns-in_ok-of-in_default-2
returns-in_ok-of-in_default-2 t c = λ x.
    let first = c.in_ok-first-in_default.first in
    let xs = c.split_at.result.0.now in
    let ys = c.split_at.result.1.now in
    let all : c.args.steps.now ≡ xs ++ ys = search rules in
    let before = c.in_ok-first-in_default.ensures x in
    let after = c.in_ok-second-in_default.ensures x in (
      c.in_ok-of-in_default-2.ensures x ∙ changed_on none_of first.gained xs ys c.args.steps.now _ _ x all before.0 after.0 after.1,
      λ low. c.in_ok-of-in_default.ensures x ∙ changed_on (λ d. true) first.kept xs ys c.args.steps.now _ _ x all (before.1 low) after.0 after.1,
    )
