-- Sets of bytes as 256 flags.
use Rattle.std.specs.Prelude.{◌≡◌, ℕ, zero, suc, ◌<◌, Bool, false, ◌||◌, ◌&&◌, ◌==◌, List, [], ◌∷◌, map, slice_index_or, if◌then◌else◌}
use Rattle.std.specs.List.{range_with_len}
use Rattle.fancy_tree.specs.CharSet.{bit}

-- the flags of a set
abbrev pub ByteFlags : Type 0
ByteFlags = List Bool

-- the byte is a member
unfoldable pub member : ByteFlags → ℕ → Bool
member flags b = slice_index_or flags b false

-- the first n flags that words of 64 bits hold, from the lowest bit of the first word on
unfoldable pub flags_in_words : List ℕ → ℕ → ByteFlags
flags_in_words words n = map (λ b. bit words b == 1) (range_with_len 0 n)

-- the members among the n bytes from b on, in ascending order
unfoldable pub members_from : ByteFlags → ℕ → ℕ → List ℕ
members_from flags zero b = []
members_from flags (suc n) b = if member flags b then b ∷ members_from flags n (suc b) else members_from flags n (suc b)

-- all members, in ascending order
abbrev pub all_members : ByteFlags → List ℕ
all_members flags = members_from flags 256 0

-- the set's members are the bytes of this kind
abbrev pub IsSetOf : (ℕ → Bool) → ByteFlags → Type 0
IsSetOf kind flags = (b : ℕ) → b < 256 → member flags b ≡ kind b

-- the bytes of this kind were added
abbrev pub AddsBytes : (ℕ → Bool) → ByteFlags → ByteFlags → Type 0
AddsBytes kind before after = (b : ℕ) → b < 256 → member after b ≡ (member before b || kind b)

-- of the members those of this kind were kept
abbrev pub KeepsBytes : (ℕ → Bool) → ByteFlags → ByteFlags → Type 0
KeepsBytes kind before after = (b : ℕ) → b < 256 → member after b ≡ (member before b && kind b)
