use denote.Enum.Bare.{same_true}
use Rattle.std.proofs.Common.{◌≡◌, ◌+◌, ◌∙◌, Bool, true, false, not, refl, sym, arith, rules, subst}
use Rattle.fancy_alphabet.specs.Classes.{IsColumn}
use Rattle.fancy_alphabet.specs.contracts.side.Side as side_type
use Rattle.fancy_alphabet.proofs.ClassLemmas.{column_is}
use Rattle.fancy_alphabet.proofs.classes.Classes.column_of.Goals as goal

pub returns : goal.returns
returns c =
    let column = c.in_ok-column.column in
    let same = same_true side_type.the_type (search rules) c.args.sight.after c.side.result (negated _ c.if-ne.ensures) in
    subst (λ first. IsColumn c.args.self.now c.args.sight (first + column)) (sym c.first.ensures)
    (column_is c.args.self.now c.args.sight c.in_ok-byte.byte column (sym c.column.ensures ∙ c.in_ok-column.was)
    (sym c.member.ensures ∙ c.if-member-byte.false) c.in_ok-byte.ensures.1 (same ∙ c.side.ensures)
    (omega (arith, c.if-number-sides.false, c.number.ensures, c.sides.ensures)))
  where
    negated : (b : Bool) → false ≡ not b → b ≡ true
    negated true e = refl
    negated false e = e
