-- What the modes of reading bytes say.
use Rattle.std.specs.Prelude.{Bool, true, false}
use Rattle.fancy_tree.specs.declared.tree.Meaning.{Meaning}
use Rattle.fancy_tree.specs.declared.tree.Meaning.TheVariants as meaning
use Rattle.fancy_tree.specs.declared.tree.BytesMode.{BytesMode}
use Rattle.fancy_tree.specs.declared.tree.BytesMode.TheVariants.{Unicode, Ascii, UnicodeBytes}

-- what an item consumes, with the Unicode mode on or off
abbrev pub meaning_of : BytesMode → Bool → Meaning
meaning_of Unicode true = meaning.Unicode
meaning_of Unicode false = meaning.AsciiText
meaning_of Ascii _ = meaning.Bytes
meaning_of UnicodeBytes true = meaning.Unicode
meaning_of UnicodeBytes false = meaning.Bytes

-- matches begin and end on character boundaries alone
abbrev pub keeps_characters : BytesMode → Bool
keeps_characters Unicode = true
keeps_characters Ascii = false
keeps_characters UnicodeBytes = false
