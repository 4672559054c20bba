-- What the instructions of a code do at a place, by what is seen there.
use Rattle.std.specs.Prelude.{ℕ, Bool, Option, None, Some, if◌then◌else◌, ◌==◌}
use Rattle.fancy_tree.specs.Sets.{has}
use Rattle.fancy_code.specs.Instructions.{Instruction, Match, Fail, Character, Member, RawByte, Assert, Split, Open, Close, Enter, Commit, Look, Deny, Test, Back, Recall, Keep, Continue, Taken}
use Rattle.fancy_meaning.specs.Context.{Unit_at}
use Rattle.fancy_alphabet.specs.Sides.{holds_between}
use Rattle.fancy_alphabet.specs.declared.side.Side.{Side}
use Rattle.fancy_alphabet.specs.declared.effect.Effect.{Effect}
use Rattle.fancy_alphabet.specs.declared.effect.Effect.TheVariants as does

-- what the instructions of a code see at a place
pub record Seen : Type 0 where
  pub before : Side
  pub after : Side
  -- what is read there
  pub unit : Option Unit_at

-- on after the item, if it passes
abbrev pub reads_if : Bool → ℕ → Effect
reads_if b next = if b then does.Reads next else does.Fails

-- on at the same place, if a test holds there
abbrev pub moves_if : Bool → ℕ → Effect
moves_if b next = if b then does.Moves next else does.Fails

-- on after the item, if there is one that passes
abbrev pub reads_where : Option Unit_at → (ℕ → Bool) → ℕ → Effect
reads_where None test next = does.Fails
reads_where (Some u) test next = reads_if (test u.code) next

-- What an instruction does where this is seen. The reading of a single byte, groups and the instructions of hard patterns are
-- none of an automaton's.
abbrev pub effect_of : Seen → Instruction → Effect
effect_of u Match = does.Ends
effect_of u Fail = does.Fails
effect_of u (Character c next) = reads_where u.unit (λ d. d == c) next
effect_of u (Member edges next) = reads_where u.unit (has edges) next
effect_of u (RawByte byte next) = does.Fails
effect_of u (Assert a next) = moves_if (holds_between u.before u.after a) next
effect_of u (Split a b) = does.Splits a b
effect_of u (Open group next) = does.Moves next
effect_of u (Close group next) = does.Moves next
effect_of u (Enter body) = does.Fails
effect_of u (Commit next) = does.Fails
effect_of u (Look behind body next) = does.Fails
effect_of u (Deny behind body next) = does.Fails
effect_of u (Test body other) = does.Fails
effect_of u (Back n next) = does.Fails
effect_of u (Recall folded number moved still) = does.Fails
effect_of u (Keep next) = does.Fails
effect_of u (Continue next) = does.Fails
effect_of u (Taken number next) = does.Fails
