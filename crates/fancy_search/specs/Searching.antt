-- Which haystacks may be searched, and where. `text` says that the haystack is text and not bytes.
use Rattle.std.specs.Prelude.{◌≡◌, ◌≤◌, ℕ, Bool, true, false, List, length, IsTrue, IsAscii}
use Rattle.fancy_tree.specs.Modes.{keeps_characters}
use Rattle.fancy_input.specs.Places.{is_boundary}
use Rattle.fancy_input.specs.declared.input.Request.{Request}
use Rattle.fancy_search.specs.declared.options.Options.{Options}

-- Where matches may stand anywhere, text is ASCII, so that no match cuts a character.
abbrev pub Suits : Options → Bool → List ℕ → Type 0
Suits o text haystack = text ≡ true → keeps_characters o.bytes_mode ≡ false → IsAscii haystack

-- a start that is not past the end is a boundary of text
abbrev pub StartsCleanly : Bool → List ℕ → ℕ → Type 0
StartsCleanly text haystack start = text ≡ true → start ≤ length haystack → IsTrue (is_boundary haystack start)

-- the condition of all searches: the haystack suits, and for text the start and both ends of the range are boundaries
pub record CanSearch (o : Options) (text : Bool) (haystack : List ℕ) (r : Request) : Type 0 where
  pub suits : Suits o text haystack
  pub starts : StartsCleanly text haystack r.start
  pub range_starts : text ≡ true → IsTrue (is_boundary haystack r.range_start)
  pub range_ends : text ≡ true → IsTrue (is_boundary haystack r.range_end)
