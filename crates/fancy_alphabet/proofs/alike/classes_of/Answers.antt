use Rattle.std.proofs.Common.{◌≡◌, ◌<◌, ℕ, List, get_or, subst, sym}
use Rattle.fancy_code.specs.Code.{instrs_of}
use Rattle.fancy_alphabet.specs.Alike.{AreSided}
use Rattle.fancy_alphabet.specs.Classes.{member_for}
use Rattle.fancy_alphabet.specs.Sides.{AreToldBy}
use Rattle.fancy_alphabet.specs.declared.side.Tests.{Tests}
use Rattle.fancy_alphabet.proofs.AlikeLemmas.{classes_are}
use Rattle.fancy_alphabet.proofs.alike.classes_of.Goals as goal

pub returns : goal.returns
returns c =
    let code = instrs_of c.args.code.now in
    let stands = c.in_ok-stands.stands.items in
    let classes = c.in_ok-classes.classes in
    classes_are code stands classes
    (subst (λ (t : Tests). AreToldBy t code) (sym c.in_ok-classes.ensures.tests) c.of_code-tests.ensures)
    c.in_ok-stands.ensures.characters c.in_ok-stands.ensures.members
    (subst (λ (t : Tests). AreSided t stands) (sym c.in_ok-classes.ensures.tests) c.in_ok-stands.ensures.sides)
    (subst (λ (xs : List ℕ). (byte : ℕ) → byte < 128 → member_for classes byte ≡ get_or xs byte 0) c.deref.ensures.value c.in_ok-classes.ensures.low)
