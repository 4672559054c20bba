use denote.Enum.Bare.{sameb, same_true}
use Rattle.std.proofs.Common.{◌≡◌, ◌∙◌, true, refl, sym, ap, rules}
use Rattle.fancy_alphabet.specs.contracts.side.Side as side_type
use Rattle.fancy_alphabet.specs.declared.side.Side.{Side}
use Rattle.fancy_alphabet.specs.declared.side.Side.TheVariants as side
use Rattle.fancy_alphabet.proofs.alike.is_sided.Goals as goal

pub returns : goal.returns
returns c = (
  λ on. sym c.of_byte.ensures ∙ same_true side_type.the_type (search rules) c.of_byte.result c.args.side (sym c.eq.ensures ∙ on),
  λ is. c.eq.ensures ∙ ap (λ (s : Side). sameb side_type.the_type s c.args.side) (c.of_byte.ensures ∙ is) ∙ itself c.args.side,
)
  where
    itself : (s : Side) → sameb side_type.the_type s s ≡ true
    itself side.Other = refl
    itself side.Word = refl
    itself side.LineFeed = refl
    itself side.CarriageReturn = refl
    itself side.Edge = refl
    itself side.Hidden = refl
