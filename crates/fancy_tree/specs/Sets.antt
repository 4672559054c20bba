-- Sets of numbers by their edges: the rising numbers at which the set begins and ends in turn.
use Rattle.std.specs.Prelude.{◌≡◌, ℕ, ◌%◌, ◌<◌, ◌≤◌, ◌==◌, Bool, true, false, not, ◌&&◌, nat_le, List, [], ◌∷◌, length, slice_index}

-- one of the two, and not both
abbrev pub differ : Bool → Bool → Bool
differ true y = not y
differ false y = y

-- An odd number of edges lies at or below each member: the first edge is the first member, the second the next number that is none, and so on.
unfoldable pub has : List ℕ → ℕ → Bool
has [] c = false
has (e ∷ es) c = differ (nat_le e c) (has es c)

unfoldable pub is_odd : ℕ → Bool
is_odd n = n % 2 == 1

abbrev pub AreRising : List ℕ → Type 0
AreRising es = (i j : ℕ) → i < j → j < length es → slice_index es i < slice_index es j

-- the edges rise, the last ends a part, and none is past the end of Unicode
pub record AreEdges (es : List ℕ) : Type 0 where
  pub rising : AreRising es
  pub closed : is_odd (length es) ≡ false
  pub within : (k : ℕ) → k < length es → slice_index es k ≤ 0x11_0000

-- the number lies in one of the ranges, which hold both their ends
abbrev pub in_range : ℕ × ℕ → ℕ → Bool
in_range r c = nat_le r.0 c && nat_le c r.1
