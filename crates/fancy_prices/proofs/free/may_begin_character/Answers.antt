use Rattle.std.proofs.Common.{true≢false, refl, sym, ◌∙◌, ◌==◌, arith, ne_eqb}
use Rattle.std.proofs.lemmas.Bool.{le-leb}
use Rattle.fancy_prices.proofs.free.may_begin_character.Goals as goal

pub returns : goal.returns
returns c fails =
    c.may_begin.ensures (λ d. d == c.args.character) refl
    (λ low d high. ne_eqb d c.args.character (λ e. true≢false (sym (le-leb 128 c.args.character (omega (arith, e, high))) ∙ low)))
    fails
