-- Where the functions stand that walk over the edges of sets, and over pairs.
use Rattle.std.specs.Prelude.{if◌then◌else◌, ◌≡◌, ℕ, ◌<◌, ◌≤◌, ◌⊎◌, Bool, true, ◌&&◌, nat_le, nat_lt, List, [], ◌∷◌, length, slice_index, slice_index_or}

-- the first i edges are below the number, and the others are not
pub record Cut (es : List ℕ) (i n : ℕ) : Type 0 where
  pub count : i ≤ length es
  pub before : (k : ℕ) → k < i → slice_index es k < n
  pub after : (k : ℕ) → i ≤ k → k < length es → n ≤ slice_index es k

-- the number is the least edge from these places on
pub record IsNearest (a : List ℕ) (i : ℕ) (b : List ℕ) (j n : ℕ) : Type 0 where
  pub left : (k : ℕ) → i ≤ k → k < length a → n ≤ slice_index a k
  pub right : (k : ℕ) → j ≤ k → k < length b → n ≤ slice_index b k
  pub one : ((i < length a) × (slice_index a i ≡ n)) ⊎ ((j < length b) × (slice_index b j ≡ n))

-- the first parts before the place are below the number, and the others are not
pub record PairsCut (ps : List (ℕ × ℕ)) (i n : ℕ) : Type 0 where
  pub count : i ≤ length ps
  pub before : (k : ℕ) → k < i → (slice_index_or ps k (0, 0)).0 < n
  pub after : (k : ℕ) → i ≤ k → k < length ps → n ≤ (slice_index_or ps k (0, 0)).0

abbrev pub first_of : ℕ × ℕ → ℕ
first_of q = q.0

-- the second part as a range of one number
abbrev pub second_alone : ℕ × ℕ → ℕ × ℕ
second_alone q = (q.1, q.1)

-- the number is in a part that goes from its begin to before its end
abbrev pub in_part : ℕ → ℕ → ℕ → Bool
in_part begin end c = nat_le begin c && nat_lt c end

-- each range that has numbers begins no earlier than the number and than those before it
unfoldable pub begin_in_order : ℕ → List (ℕ × ℕ) → Bool
begin_in_order low [] = true
begin_in_order low (r ∷ rs) = if nat_le r.0 r.1 then nat_le low r.0 && begin_in_order r.0 rs else begin_in_order low rs
