-- What the engines read does not depend on where `\G` holds.
use Rattle.std.proofs.Common.{◌≡◌, ℕ, Bool, List, refl}
use Rattle.fancy_tree.specs.declared.tree.Meaning.{Meaning}
use Rattle.fancy_tree.specs.declared.tree.Assertion.{Assertion}
use Rattle.fancy_tree.specs.declared.tree.Assertion.TheVariants.{TextStart, TextEnd, LineStart, LineEnd, LineStartCrlf, LineEndCrlf, LastLine, LastLineCrlf, WordBoundary, NotWordBoundary, WordStart, WordEnd, WordStartHalf, WordEndHalf}
use Rattle.fancy_meaning.specs.declared.reading.SuppressedEnds.{SuppressedEnds}
use Rattle.fancy_meaning.specs.Context.{Context, past_item, past_byte, unit_at, holds}
use Rattle.fancy_meaning.specs.Reading.{search_context}
use Rattle.fancy_machine.specs.Attempt.{reading}

-- the ends that do not count in a context
abbrev pub suppressed_of : Context → SuppressedEnds
suppressed_of x = record { start = x.start_text_off; end = x.end_text_off }

pub item_seen : (h : List ℕ) (m : Meaning) (x : Context) (s : SuppressedEnds) (from p : ℕ) (test : ℕ → Bool) → past_item (search_context h m s from) test p ≡ past_item (reading h m x) test p
unfolding past_item unit_at
item_seen h m x s from p test = refl

pub byte_seen : (h : List ℕ) (m : Meaning) (x : Context) (s : SuppressedEnds) (from p byte : ℕ) → past_byte (search_context h m s from) byte p ≡ past_byte (reading h m x) byte p
unfolding past_byte
byte_seen h m x s from p byte = refl

pub holds_seen : (x : Context) (from p : ℕ) (a : Assertion) → holds (search_context x.haystack x.meaning (suppressed_of x) from) a p ≡ holds x a p
unfolding holds
holds_seen x from p TextStart = refl
holds_seen x from p TextEnd = refl
holds_seen x from p LineStart = refl
holds_seen x from p LineEnd = refl
holds_seen x from p LineStartCrlf = refl
holds_seen x from p LineEndCrlf = refl
holds_seen x from p LastLine = refl
holds_seen x from p LastLineCrlf = refl
holds_seen x from p WordBoundary = refl
holds_seen x from p NotWordBoundary = refl
holds_seen x from p WordStart = refl
holds_seen x from p WordEnd = refl
holds_seen x from p WordStartHalf = refl
holds_seen x from p WordEndHalf = refl
