-- The bytes of items: with which ones they begin, and which ones they all have.
use Rattle.std.specs.Prelude.{ℕ, zero, suc, ◌-◌, Bool, true, false, not, ◌&&◌, ◌||◌, ◌==◌, nat_le, List, [], ◌∷◌, Option, Some, None, if◌then◌else◌, encode_utf8}
use Rattle.fancy_tree.specs.declared.tree.Meaning.{Meaning}
use Rattle.fancy_tree.specs.declared.tree.Meaning.TheVariants.{Unicode, Bytes, AsciiText}
use Rattle.fancy_input.specs.Places.{is_scalar}

-- a number below n passes the test
unfoldable pub some_below : ℕ → (ℕ → Bool) → Bool
some_below zero test = false
some_below (suc n) test = test n || some_below n test

-- the numbers of characters are below this one
unfoldable pub codes : ℕ
codes = 0x11_0000

-- what an item with this number is in the haystack: in byte meaning one byte, else UTF-8
abbrev pub encoding : Meaning → ℕ → List ℕ
encoding Unicode c = encode_utf8 c
encoding Bytes c = c ∷ []
encoding AsciiText c = encode_utf8 c

-- the number is that of an item: in byte meaning any is, else a character's
abbrev pub is_item : Meaning → ℕ → Bool
is_item Unicode c = is_scalar c
is_item Bytes c = true
is_item AsciiText c = is_scalar c

-- the byte stands first
abbrev pub starts_with_byte : List ℕ → ℕ → Bool
starts_with_byte [] b = false
starts_with_byte (x ∷ xs) b = b == x

-- the byte stands somewhere
abbrev pub includes : List ℕ → ℕ → Bool
includes [] b = false
includes (x ∷ xs) b = (b == x) || includes xs b

-- the byte is the first in the encoding of a character that passes the test
unfoldable pub first_of_characters : (ℕ → Bool) → ℕ → Bool
first_of_characters test b = some_below codes (λ c. is_scalar c && (test c && starts_with_byte (encode_utf8 c) b))

-- the byte is the first in the encoding of an item that passes the test
abbrev pub first_of_items : Meaning → (ℕ → Bool) → ℕ → Bool
first_of_items Unicode test b = first_of_characters test b
first_of_items Bytes test b = test b
first_of_items AsciiText test b = first_of_characters test b

-- the number itself, and no other
abbrev pub only : ℕ → ℕ → Bool
only c d = d == c

-- the one member of the set by these edges, where it has a single one
abbrev pub one_member : List ℕ → Option ℕ
one_member [] = None
one_member (e ∷ []) = None
one_member (e ∷ f ∷ []) = if f == suc e then Some e else None
one_member (e ∷ f ∷ g ∷ es) = None

-- the byte stands in the encoding of the item with this number, if there is one
abbrev pub is_in_one : Meaning → Option ℕ → ℕ → Bool
is_in_one m None b = false
is_in_one m (Some c) b = is_item m c && includes (encoding m c) b

-- the byte stands in the encoding of each item among the n numbers from c on
unfoldable pub is_in_each : Meaning → ℕ → ℕ → ℕ → Bool
is_in_each m zero c b = true
is_in_each m (suc n) c b = (not (is_item m c) || includes (encoding m c) b) && is_in_each m n (suc c) b

-- The byte stands in the encoding of each member of the set that these edges begin and end in turn. Of edges that end no part, or end one before it begins, it is said of no byte; a parsed set has none such.
abbrev pub is_in_all : Meaning → List ℕ → ℕ → Bool
is_in_all m [] b = true
is_in_all m (e ∷ []) b = false
is_in_all m (e ∷ f ∷ es) b = nat_le e f && (is_in_each m (f - e) e b && is_in_all m es b)
