-- What the code gives from an instruction and a place: where the first accepted outcome ends.
use Rattle.std.specs.Prelude.{◌≡◌, ℕ, zero, suc, ◌+◌, Bool, List, Option, None, option_map, is_some, if◌then◌else◌, true, false}
use Rattle.std.specs.Option.{option_or}
use Rattle.fancy_code.specs.Instructions.{Instruction, Match, Fail, Character, Member, RawByte, Assert, Split, Open, Close, Enter, Commit, Look, Deny, Test, Back, Recall, Keep, Continue, Taken}
use Rattle.fancy_meaning.specs.Context.{Context, State}
use Rattle.fancy_code.specs.Run.{instr_at}
use Rattle.fancy_code.specs.Thread.{first_accepted, ends_well, events_of, pair_run}
use Rattle.fancy_alphabet.specs.Sides.{is_told_between}
use Rattle.fancy_states.specs.Ways.{tagged}

-- an easy instruction that reads no single byte, and does not test whether only empty lines follow
abbrev pub IsPlainInstr : Instruction → Type 0
IsPlainInstr Match = Unit {0}
IsPlainInstr Fail = Unit {0}
IsPlainInstr (Character c next) = Unit {0}
IsPlainInstr (Member edges next) = Unit {0}
IsPlainInstr (RawByte byte next) = ⊥
IsPlainInstr (Assert a next) = is_told_between a ≡ true
IsPlainInstr (Split a b) = Unit {0}
IsPlainInstr (Open group next) = Unit {0}
IsPlainInstr (Close group next) = Unit {0}
IsPlainInstr (Enter body) = ⊥
IsPlainInstr (Commit next) = ⊥
IsPlainInstr (Look behind body next) = ⊥
IsPlainInstr (Deny behind body next) = ⊥
IsPlainInstr (Test body other) = ⊥
IsPlainInstr (Back n next) = ⊥
IsPlainInstr (Recall folded number moved still) = ⊥
IsPlainInstr (Keep next) = ⊥
IsPlainInstr (Continue next) = ⊥
IsPlainInstr (Taken number next) = ⊥

-- the same as a truth value
abbrev pub is_plain_instr : Instruction → Bool
is_plain_instr Match = true
is_plain_instr Fail = true
is_plain_instr (Character c next) = true
is_plain_instr (Member edges next) = true
is_plain_instr (RawByte byte next) = false
is_plain_instr (Assert a next) = is_told_between a
is_plain_instr (Split a b) = true
is_plain_instr (Open group next) = true
is_plain_instr (Close group next) = true
is_plain_instr (Enter body) = false
is_plain_instr (Commit next) = false
is_plain_instr (Look behind body next) = false
is_plain_instr (Deny behind body next) = false
is_plain_instr (Test body other) = false
is_plain_instr (Back n next) = false
is_plain_instr (Recall folded number moved still) = false
is_plain_instr (Keep next) = false
is_plain_instr (Continue next) = false
is_plain_instr (Taken number next) = false

-- each instruction of the code is such
abbrev pub ArePlain : List Instruction → Type 0
ArePlain code = (q : ℕ) → IsPlainInstr (instr_at code q)

-- no instruction of the code ends a group
abbrev pub EndsNoGroup : List Instruction → Type 0
EndsNoGroup code = (q group next : ℕ) → instr_at code q ≡ Close group next → ⊥

abbrev pub place_of : State → ℕ
place_of s = s.place

module _ (good : ℕ → Bool) (x : Context) (limit : ℕ) (code : List Instruction) (deep : ℕ) where
  -- at the place, from the instruction
  abbrev pub end_at : ℕ → ℕ → Option ℕ
  end_at here q = option_map place_of (first_accepted (ends_well good) (events_of (pair_run x limit code deep q here)))

  abbrev pub known_at : ℕ → ℕ → Bool
  known_at here q = is_some (pair_run x limit code deep q here)

  -- from the instruction, where a match may begin
  abbrev pub start_end : ℕ → ℕ → Option ℕ
  start_end start p = if good p then (end_at p start) else None

  -- the start and the end at the least of the n positions from p on that has an end
  abbrev pub leftmost : ℕ → ℕ → ℕ → Option (ℕ × ℕ)
  leftmost start zero p = None
  leftmost start (suc n) p = option_or (tagged p (start_end start p)) (leftmost start n (p + 1))
