use Rattle.std.proofs.Common.{◌∙◌, ap, subst, sym}
use Rattle.fancy_tree.specs.declared.tree.Assertion.{Assertion}
use Rattle.fancy_code.specs.Code.{instr_in}
use Rattle.fancy_alphabet.specs.Sides.{IsToldBy}
use Rattle.fancy_alphabet.proofs.SideLemmas.{assertion_of, told_by_own}
use Rattle.fancy_alphabet.proofs.side.Tests.with.Goals as goal

pub returns-in-Assert-clause-told : goal.returns-in-Assert-clause-told
returns-in-Assert-clause-told c code a next e =
    let same = assertion_of c.in-Assert.assertion a c.in-Assert.field-1 next (sym (ap (instr_in code) c.in-Assert.is) ∙ e) in
    subst (λ (b : Assertion). IsToldBy c.or.result b) same
    (c.or.ensures.second c.in-Assert.assertion (subst (λ t. IsToldBy t c.in-Assert.assertion) (sym c.tests_for.ensures) (told_by_own c.in-Assert.assertion)))
