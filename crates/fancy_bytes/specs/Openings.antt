-- The text that whatever a pattern matches begins with.
use Rattle.std.specs.Prelude.{◌≡◌, ℕ, ◌+◌, ◌<◌, ◌≤◌, Bool, true, false, ◌&&◌, List, [], ◌∷◌, ◌++◌, nat_le, nat_lt, slice_get, Some, if◌then◌else◌, encode_utf8}
use Rattle.fancy_tree.specs.declared.tree.Meaning.{Meaning}
use Rattle.fancy_tree.specs.declared.tree.Meaning.TheVariants.{Unicode, Bytes, AsciiText}
use Rattle.fancy_tree.specs.Pattern.{Pattern, empty, character, member_of, in_any_case, raw_byte, backreference, assertion, group_test, keep_start, continue_here, group, repeat, look_ahead, look_behind, atomic, conditional, followed, or_else, last_branch}

-- bytes can hold the item with this number
abbrev pub has_text : Meaning → ℕ → Bool
has_text Unicode c = true
has_text Bytes c = nat_lt c 256
has_text AsciiText c = true

-- the bytes of the item with this number, if they can hold it
abbrev pub item_text : Meaning → ℕ → List ℕ
item_text Unicode c = encode_utf8 c
item_text Bytes c = if nat_lt c 256 then c ∷ [] else []
item_text AsciiText c = encode_utf8 c

-- The pattern consumes one text, whatever it matches: its opening.
abbrev pub is_literal : Meaning → Pattern → Bool
is_literal m empty = true
is_literal m (character c) = has_text m c
is_literal m (member_of edges) = false
is_literal m (in_any_case edges) = false
is_literal m (raw_byte byte) = true
is_literal m (backreference folded number) = false
is_literal m (assertion a) = true
is_literal m (group_test number) = false
is_literal m keep_start = false
is_literal m continue_here = false
is_literal m (group index body) = is_literal m body
is_literal m (repeat low high kind body) = false
is_literal m (look_ahead negated body) = false
is_literal m (look_behind negated body) = false
is_literal m (atomic body) = false
is_literal m (conditional condition first second) = false
is_literal m (followed part rest) = is_literal m part && is_literal m rest
is_literal m (or_else branch others) = false
is_literal m (last_branch branch) = false

-- What the pattern consumes begins with this text, whatever it matches.
abbrev pub opening : Meaning → Pattern → List ℕ
opening m empty = []
opening m (character c) = item_text m c
opening m (member_of edges) = []
opening m (in_any_case edges) = []
opening m (raw_byte byte) = byte ∷ []
opening m (backreference folded number) = []
opening m (assertion a) = []
opening m (group_test number) = []
opening m keep_start = []
opening m continue_here = []
opening m (group index body) = opening m body
opening m (repeat low high kind body) = if nat_le 1 low then opening m body else []
opening m (look_ahead negated body) = []
opening m (look_behind negated body) = []
opening m (atomic body) = []
opening m (conditional condition first second) = []
opening m (followed part rest) = opening m part ++ (if is_literal m part then opening m rest else [])
opening m (or_else branch others) = []
opening m (last_branch branch) = []

-- patterns one after another

abbrev pub are_literal : Meaning → List Pattern → Bool
are_literal m [] = true
are_literal m (p ∷ ps) = is_literal m p && are_literal m ps

abbrev pub opening_of_row : Meaning → List Pattern → List ℕ
opening_of_row m [] = []
opening_of_row m (p ∷ ps) = opening m p ++ (if is_literal m p then opening_of_row m ps else [])

-- the text stands from the place on, before the end
abbrev pub StandsBefore : List ℕ → ℕ → List ℕ → ℕ → Type 0
StandsBefore haystack end [] p = Unit {0}
StandsBefore haystack end (b ∷ bs) p = (p < end) × (slice_get haystack p ≡ Some b) × StandsBefore haystack end bs (p + 1)

-- the text stands at no place from the one on and before the other
abbrev pub NoneStandsBefore : List ℕ → ℕ → List ℕ → ℕ → ℕ → Type 0
NoneStandsBefore haystack end text from to = (k : ℕ) → from ≤ k → k < to → ¬ StandsBefore haystack end text k
