-- The numbers of sides.
use Rattle.std.proofs.Common.{◌≡◌, ℕ, ◌<◌, ◌≤◌, refl, sym, ap, ◌∙◌, arith, ◌==◌}
use Rattle.std.specs.Prelude.{if◌then◌else◌}
use Rattle.fancy_alphabet.specs.Sides.{number_of, seen_as, sides_of}
use Rattle.fancy_alphabet.specs.declared.side.Side.{Side}
use Rattle.fancy_alphabet.specs.declared.side.Side.TheVariants as side
use Rattle.fancy_alphabet.specs.declared.side.Tests.{Tests}
use Rattle.fancy_alphabet.specs.declared.side.Tests.TheVariants as tests

pub number_low : (s : Side) → number_of s ≤ 5
number_low side.Other = omega arith
number_low side.Word = omega arith
number_low side.LineFeed = omega arith
number_low side.CarriageReturn = omega arith
number_low side.Edge = omega arith
number_low side.Hidden = omega arith

pub sides_low : (t : Tests) → sides_of t ≤ 6
sides_low tests.Nothing = omega arith
sides_low tests.Words = omega arith
sides_low tests.All = omega arith

pub seen_low : (t : Tests) (s : Side) → number_of (seen_as t s) < sides_of t
seen_low tests.Nothing s = omega arith
seen_low tests.Words side.Other = omega arith
seen_low tests.Words side.Word = omega arith
seen_low tests.Words side.LineFeed = omega arith
seen_low tests.Words side.CarriageReturn = omega arith
seen_low tests.Words side.Edge = omega arith
seen_low tests.Words side.Hidden = omega arith
seen_low tests.All s = (let low = number_low s in omega (arith, low))

-- the side with a number
side_at : ℕ → Side
side_at n =
    if n == 0 then side.Other
    else (if n == 1 then side.Word else (if n == 2 then side.LineFeed else (if n == 3 then side.CarriageReturn else (if n == 4 then side.Edge else side.Hidden))))

side_numbered : (s : Side) → side_at (number_of s) ≡ s
unfolding side_at
side_numbered side.Other = refl
side_numbered side.Word = refl
side_numbered side.LineFeed = refl
side_numbered side.CarriageReturn = refl
side_numbered side.Edge = refl
side_numbered side.Hidden = refl

pub number_same : (s r : Side) → number_of s ≡ number_of r → s ≡ r
number_same s r e = sym (side_numbered s) ∙ ap side_at e ∙ side_numbered r
