-- Code of one item.
use Rattle.std.specs.Prelude.{◌≡◌, ◌&&◌, ℕ, zero, suc, List, Option, Some, None, nat_le, if◌then◌else◌}
use Rattle.fancy_meaning.specs.Context.{moved_to}
use Rattle.fancy_code.specs.Instructions.{Instruction, Split}
use Rattle.fancy_code.specs.Run.{instr_at}
use Rattle.fancy_meaning.specs.Search.{Query, Answer, accepted, initial}
use Rattle.fancy_search.specs.Straight.{after_part}

-- it reads one item, or tests the place, after which there is an outcome
abbrev pub IsOneItem : Instruction → Type 0
IsOneItem i = after_part i ≡ Some 0

-- the answer of an attempt at p whose one outcome is at this place, if there is one, where a match is led on from there to another place
abbrev pub answer_past : Query → ℕ → (ℕ → ℕ) → Option ℕ → Option Answer
answer_past q p on None = None
answer_past q p on (Some end) =
    if nat_le end q.request.range_end && accepted q p (moved_to (initial q p) end)
    then Some (record { position = p; state = moved_to (initial q p) (on end) })
    else None

-- the same where it is led nowhere
abbrev pub answer_to : Query → ℕ → Option ℕ → Option Answer
answer_to q p past = answer_past q p (λ end. end) past

-- n choices follow one after another from q on, and each way of them reads one item, after which there is an outcome
abbrev pub EachReadsOne : List Instruction → ℕ → ℕ → Type 0
EachReadsOne code zero q = IsOneItem (instr_at code q)
EachReadsOne code (suc n) q = (first : ℕ) × (second : ℕ) × (instr_at code q ≡ Split first second) × IsOneItem (instr_at code first) × EachReadsOne code n second

-- each way from q on reads one item, after which there is an outcome
abbrev pub AreOneItems : List Instruction → ℕ → Type 0
AreOneItems code q = (n : ℕ) × EachReadsOne code n q
