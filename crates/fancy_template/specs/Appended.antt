-- What was appended to a text, or written.
use Rattle.std.specs.Prelude.{◌≡◌, ◌++◌, ◌<◌, ℕ, List, Option, length, take, string_bytes}
use Rattle.std.specs.Io.KnownBytes.{Appends}
use Rattle.std.specs.declared.string.String.{String}
use Rattle.std.specs.declared.vec.Vec.{Vec}

-- the text has grown by these bytes
abbrev pub AddsText : {Z : Type 0} → String Z → List ℕ → String Z → Type 0
AddsText before bytes after = string_bytes after ≡ string_bytes before ++ bytes

-- the text has grown by some bytes of which this holds
abbrev pub AddsSome : {Z : Type 0} → String Z → String Z → (List ℕ → Type 0) → Type 0
AddsSome before after P = (bytes : List ℕ) × (string_bytes after ≡ string_bytes before ++ bytes) × P bytes

-- the list has grown by these bytes
abbrev pub AddsItems : {Z : Type 0} → Vec ℕ Z → List ℕ → Vec ℕ Z → Type 0
AddsItems before bytes after = after.items ≡ before.items ++ bytes

-- a writer has taken these bytes; `contents` says what is known of what it holds
abbrev pub Writes : {W : Type 0} → (W → Option (List ℕ)) → W → List ℕ → W → Type 0
Writes contents before bytes after = Appends (contents before) (contents after) bytes

-- a writer has taken a beginning of these bytes, and not all of them
abbrev pub WritesPart : {W : Type 0} → (W → Option (List ℕ)) → W → List ℕ → W → Type 0
WritesPart contents before bytes after = (count : ℕ) × (count < length bytes) × Appends (contents before) (contents after) (take count bytes)
