-- Straight code: items and tests of the place one after another, and then a match, or a loop of one item and a match.
use Rattle.std.specs.Prelude.{◌≡◌, ◌==◌, ◌&&◌, ◌-◌, if◌then◌else◌, ℕ, zero, suc, nat_le, Bool, false, List, Option, Some, None, option_map}
use Rattle.fancy_tree.specs.Sets.{has}
use Rattle.fancy_tree.specs.declared.tree.Meaning.{Meaning}
use Rattle.fancy_meaning.specs.Context.{Context, holds, option_to, past_item, past_byte}
use Rattle.fancy_meaning.specs.declared.reading.SuppressedEnds.{SuppressedEnds}
use Rattle.fancy_code.specs.Instructions.{edges_in, Instruction, Match, Fail, Character, Member, RawByte, Assert, Split, Open, Close, Enter, Commit, Look, Deny, Test, Back, Recall, Keep, Continue, Taken}
use Rattle.fancy_code.specs.Run.{instr_at}
use Rattle.fancy_search.specs.declared.straight.Item.{Item}
use Rattle.fancy_search.specs.declared.straight.Item.TheVariants as items
use Rattle.fancy_search.specs.declared.straight.StraightEnd.{StraightEnd}
use Rattle.fancy_search.specs.declared.straight.StraightEnd.TheVariants.{AtMatch, Loop}

-- The context reads this haystack so, with these ends of the text suppressed.
pub record IsRead (x : Context) (haystack : List ℕ) (meaning : Meaning) (suppressed : SuppressedEnds) : Type 0 where
  pub haystack_is : x.haystack ≡ haystack
  pub meaning_is : x.meaning ≡ meaning
  pub start : x.start_text_off ≡ suppressed.start
  pub end : x.end_text_off ≡ suppressed.end

-- the instruction that goes on after the item that this one reads, or after its test of the place, if it is one of these
abbrev pub after_part : Instruction → Option ℕ
after_part Match = None
after_part Fail = None
after_part (Character c next) = Some next
after_part (Member edges next) = Some next
after_part (RawByte byte next) = Some next
after_part (Assert a next) = Some next
after_part (Split a b) = None
after_part (Open group next) = None
after_part (Close group next) = None
after_part (Enter body) = None
after_part (Commit next) = None
after_part (Look behind body next) = None
after_part (Deny behind body next) = None
after_part (Test body other) = None
after_part (Back n next) = None
after_part (Recall folded number moved still) = None
after_part (Keep next) = None
after_part (Continue next) = None
after_part (Taken number next) = None

-- The place past the item that the instruction reads at p, if it reads one, and that stands there. Past a test it is p, if that holds.
abbrev pub past_part : Context → Instruction → ℕ → Option ℕ
past_part x Match p = None
past_part x Fail p = None
past_part x (Character c next) p = past_item x (λ d. d == c) p
past_part x (Member edges next) p = past_item x (has edges) p
past_part x (RawByte byte next) p = past_byte x byte p
past_part x (Assert a next) p = if holds x a p then Some p else None
past_part x (Split a b) p = None
past_part x (Open group next) p = None
past_part x (Close group next) p = None
past_part x (Enter body) p = None
past_part x (Commit next) p = None
past_part x (Look behind body next) p = None
past_part x (Deny behind body next) p = None
past_part x (Test body other) p = None
past_part x (Back n next) p = None
past_part x (Recall folded number moved still) p = None
past_part x (Keep next) p = None
past_part x (Continue next) p = None
past_part x (Taken number next) p = None

-- whether the instruction reads an item of a set or a character, and goes on at `next`
abbrev pub item_to : Instruction → ℕ → Bool
item_to (Character c q) next = q == next
item_to (Member edges q) next = q == next
item_to i next = false

-- where the instruction at q is a choice to go round an item once more, or to match: the instruction of the item
abbrev pub loop_of : List Instruction → ℕ → Instruction → Option ℕ
loop_of code q (Split first second) = if second == 0 && item_to (instr_at code first) q then Some first else None
loop_of code q i = None

-- from q on, n parts at most come one after another, and then there is a match, or such a choice: how they end
abbrev pub straight_end : ℕ → ℕ → List Instruction → Option StraightEnd
straight_end zero n code = Some AtMatch
straight_end (suc q) zero code = None
straight_end (suc q) (suc n) code =
    option_to (after_part (instr_at code (suc q))) (option_map Loop (loop_of code (suc q) (instr_at code (suc q)))) (λ next. straight_end next n code)

-- the place past these parts, if they all stand one after another at p
abbrev pub past_all : Context → ℕ → ℕ → List Instruction → ℕ → Option ℕ
past_all x zero n code p = Some p
past_all x (suc q) zero code p = None
past_all x (suc q) (suc n) code p =
    option_to (after_part (instr_at code (suc q))) (Some p) (λ next. option_to (past_part x (instr_at code (suc q)) p) None (past_all x next n code))

-- which characters an item of a loop may be
abbrev pub test_of : Item → ℕ → Bool
test_of (items.Character c) = λ d. d == c
test_of (items.Member set) = has (edges_in set.now)

-- the place past n items at most that pass the test and stand one after another from p on, each of which ends by the limit
abbrev pub past_items : Context → (ℕ → Bool) → ℕ → ℕ → ℕ → ℕ
past_items x test limit zero p = p
past_items x test limit (suc n) p = option_to (past_item x test p) p (λ k. if nat_le k limit then (past_items x test limit n k) else p)

-- the same for the item that the instruction reads
abbrev pub past_turns : Context → ℕ → Instruction → ℕ → ℕ
past_turns x limit (Character c next) p = past_items x (λ d. d == c) limit (limit - p) p
past_turns x limit (Member edges next) p = past_items x (has edges) limit (limit - p) p
past_turns x limit i p = p

-- where a match ends whose parts end at p
abbrev pub past_end : Context → List Instruction → ℕ → StraightEnd → ℕ → ℕ
past_end x code limit AtMatch p = p
past_end x code limit (Loop item) p = past_turns x limit (instr_at code item) p
