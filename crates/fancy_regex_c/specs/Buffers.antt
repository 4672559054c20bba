-- What stands in a buffer that a call writes a text into.
use Rattle.std.specs.Prelude.{◌≡◌, ◌<◌, ℕ, List, [], ◌∷◌, ◌++◌, length, take, drop, nat_le, if◌then◌else◌}

-- The bytes are at the start of the buffer, and what stood after them is kept; or it is too short for them, and was kept. Their number
-- is told in both cases.
pub data Puts (bytes old new : List ℕ) (wanted answer : ℕ) : Type 0 where
  is_put : answer ≡ 0 → wanted ≡ length bytes → new ≡ bytes ++ drop (length bytes) old → Puts bytes old new wanted answer
  is_too_short : answer ≡ 8 → wanted ≡ length bytes → length old < length bytes → new ≡ old → Puts bytes old new wanted answer

-- Nothing is written, and 0 is told.
abbrev pub PutsNothing : List ℕ → List ℕ → ℕ → Type 0
PutsNothing old new wanted = (wanted ≡ 0) × (new ≡ old)

-- so many are wanted: DONE where the buffer has room for them, and else TOO_SHORT
abbrev pub done_if : ℕ → ℕ → ℕ
done_if wanted room = if nat_le wanted room then 0 else 8

-- The first of the items at the start of the buffer, as many as it has room for, and after them what stood there.
abbrev pub filled : {A : Type 0} → List A → List A → List A
filled items old = take (length old) items ++ drop (length items) old

-- The item is put behind those that the buffer was filled with.
abbrev pub PutsNext : {A : Type 0} → A → List A → List A → ℕ → Type 0
PutsNext {A} item old new count = (items first : List A) → length items ≡ count → old ≡ filled items first → new ≡ filled (items ++ (item ∷ [])) first
