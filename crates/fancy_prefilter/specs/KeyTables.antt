-- Tables that tell by the first bytes of a window which of some rows of byte sets may stand there.
use Rattle.std.specs.Prelude.{◌≡◌, ℕ, ◌+◌, ◌<◌, ◌≤◌, List, Some, slice_get, slice_index}
use Rattle.std.specs.Global.{Vec}
use Rattle.fancy_prefilter.specs.declared.key_table.KeyTable.{KeyTable}
use Rattle.fancy_prefilter.specs.Keys.{IsAmong, key_at}
use Rattle.fancy_bytes.specs.Sets.{ByteFlags}
use Rattle.fancy_bytes.specs.Rows.{StandsFrom}

-- the table has the number at this key
abbrev pub HasAt : KeyTable → ℕ → ℕ → Type 0
HasAt t key number = IsAmong t.members.items (slice_index t.starts.items key) (slice_index t.starts.items (key + 1)) number

-- the row with this number may stand in the window at a place, before the end
abbrev pub MayStand : KeyTable → List ℕ → ℕ → ℕ → ℕ → Type 0
MayStand t haystack end p number = (p + t.width ≤ end) × HasAt t (key_at t.width haystack p) number

-- no row may stand there
abbrev pub NoneMayStand : KeyTable → List ℕ → ℕ → ℕ → Type 0
NoneMayStand t haystack end p = (number : ℕ) → ¬ MayStand t haystack end p number

-- where a row stands, it may stand by the table
abbrev pub MissesNoRow : KeyTable → List (Vec ByteFlags) → Type 0
MissesNoRow t rows =
    (number : ℕ) (row : Vec ByteFlags) (haystack : List ℕ) (end p : ℕ) → slice_get rows number ≡ Some row → ((k : ℕ) → slice_index haystack k < 256)
    → StandsFrom row.items haystack end 0 p → MayStand t haystack end p number
