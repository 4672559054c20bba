-- What code does from a state, an instruction at a time.
use Rattle.std.specs.Prelude.{◌≡◌, ℕ, zero, suc, Bool, List, [], ◌∷◌, ◌++◌, length, Option, Some, None, if◌then◌else◌, ◌==◌, nat_le, is_some, slice_index, slice_index_or, slice_set}
use Rattle.fancy_tree.specs.Sets.{has}
use Rattle.fancy_code.specs.Instructions.{Instruction, Match, Fail, Character, Member, RawByte, Assert, Split, Open, Close, Enter, Commit, Look, Deny, Test, Back, Recall, Keep, Continue, Taken}
use Rattle.fancy_meaning.specs.Context.{Context, State, moved_to, with_capture, group_span, past_item, past_byte, units_back, holds, continues, option_to}
use Rattle.fancy_meaning.specs.Backreference.{past_backreference}
use Rattle.fancy_meaning.specs.Events.{Event, mark, return, outcome, any, ends_look}

-- a mark, a return, or the fetch of an instruction
pub data Sign : Type 0 where
  choice_opened : Sign
  returned : Sign
  fetched : Sign

-- An event of the code. At a stop a way stops, and what is round it goes on at q; the list says where each open group began.
pub data Raw : Type 0 where
  Note : Sign → Raw
  Stop : (q : ℕ) → State → List ℕ → Raw

-- what follows from an instruction on, if that is known
abbrev pub Go : Type 0
Go = ℕ → State → List ℕ → Option (List Raw)

-- an event, and then the others
abbrev pub before : Raw → Option (List Raw) → Option (List Raw)
before e None = None
before e (Some w) = Some (e ∷ w)

-- the one way, and on return the other
abbrev pub join : Option (List Raw) → Option (List Raw) → Option (List Raw)
join None o = None
join (Some a) None = None
join (Some a) (Some b) = Some (a ++ Note returned ∷ b)

-- up to the first stop that is wanted, and then what it is found for; without one, `missed` comes last
abbrev pub guard : Go → (State → Bool) → Option (List Raw) → List Raw → Option (List Raw)
guard found wanted missed [] = missed
guard found wanted missed (Note m ∷ w) = before (Note m) (guard found wanted missed w)
guard found wanted missed (Stop q s v ∷ w) = if wanted s then (found q s v) else (guard found wanted missed w)

-- the same where the events may be unknown
abbrev pub fenced : Go → (State → Bool) → Option (List Raw) → Option (List Raw) → Option (List Raw)
fenced found wanted missed None = None
fenced found wanted missed (Some w) = guard found wanted missed w

-- the instruction at q; past the code there is none
abbrev pub instr_at : List Instruction → ℕ → Instruction
instr_at code q = slice_index_or code q Fail

-- the events as a pattern has them
abbrev pub erase : List Raw → List Event
erase [] = []
erase (Note choice_opened ∷ w) = mark ∷ erase w
erase (Note returned ∷ w) = return ∷ erase w
erase (Note fetched ∷ w) = erase w
erase (Stop q s v ∷ w) = outcome s ∷ erase w

-- how a way may stop
abbrev pub Ends : Type 1
Ends = ℕ → State → List ℕ → Type 0

abbrev pub AllStops : Ends → List Raw → Type 0
AllStops P [] = Unit {0}
AllStops P (Note m ∷ w) = AllStops P w
AllStops P (Stop q s v ∷ w) = P q s v × AllStops P w

-- Where the events are known and a way stops among them, P holds.
abbrev pub Foretells : Type 0 → Option (List Raw) → Type 0
Foretells P None = Unit {0}
Foretells P (Some w) = AllStops (λ q s v. P) w

-- the events are known, and are these, and each way stops as P says
abbrev pub Given : Ends → Option (List Raw) → List Event → Type 0
Given P o es = (w : List Raw) × (o ≡ Some w) × (erase w ≡ es) × AllStops P w

-- on at `next` and the new place, if there is one by the limit
abbrev pub onward : ℕ → Go → ℕ → State → List ℕ → Option ℕ → Option (List Raw)
onward limit go next s v None = Some []
onward limit go next s v (Some p) = if nat_le p limit then (go next (moved_to s p) v) else (Some [])

-- the same for a text that may be empty: `still` follows where nothing was consumed
abbrev pub rejoin : ℕ → Go → ℕ → ℕ → State → List ℕ → Option ℕ → Option (List Raw)
rejoin limit go moved still s v None = Some []
rejoin limit go moved still s v (Some p) =
    if nat_le p limit then (if p == s.place then (go still (moved_to s p) v) else (go moved (moved_to s p) v)) else (Some [])

-- a look-around goes on at `next` and the place p
abbrev pub resume : Go → ℕ → ℕ → Go
resume go next p q s v = go next (moved_to s p) v

-- nothing follows
abbrev pub halt : Go
halt q s v = Some []

module _ (x : Context) (limit : ℕ) where
  -- What the instruction at q gives, where `go` tells what the others give, and `far` what they give where consumed text may end anywhere. Here it ends by the limit.
  abbrev pub act : ℕ → Instruction → Go → Go → State → List ℕ → Option (List Raw)
  act q Match go far s v = Some (Stop q s v ∷ [])
  act q Fail go far s v = Some []
  act q (Character c next) go far s v = onward limit go next s v (past_item x (λ d. d == c) s.place)
  act q (Member edges next) go far s v = onward limit go next s v (past_item x (has edges) s.place)
  act q (RawByte byte next) go far s v = onward limit go next s v (past_byte x byte s.place)
  act q (Assert a next) go far s v = if holds x a s.place then (go next s v) else (Some [])
  act q (Split a b) go far s v = before (Note choice_opened) (join (go a s v) (go b s v))
  act q (Open group next) go far s v = go next s (slice_set v group s.place)
  act q (Close group next) go far s v = go next (with_capture s group (slice_index v group)) v
  act q (Enter body) go far s v = fenced go any (Some []) (go body s v)
  act q (Commit next) go far s v = Some (Stop next s v ∷ [])
  act q (Look behind body next) go far s v = fenced (resume go next s.place) (ends_look behind s.place) (Some []) (far body s v)
  act q (Deny behind body next) go far s v =
      before (Note choice_opened) (fenced halt (ends_look behind s.place) (before (Note returned) (go next s v)) (far body s v))
  act q (Test body other) go far s v = before (Note choice_opened) (fenced go any (before (Note returned) (go other s v)) (go body s v))
  act q (Back n next) go far s v = option_to (units_back x n s.place) (Some []) (λ p. go next (moved_to s p) v)
  act q (Recall folded number moved still) go far s v = rejoin limit go moved still s v (past_backreference x folded number s)
  act q (Keep next) go far s v = go next (record s { kept = s.place }) v
  act q (Continue next) go far s v = if continues x s.place then (go next s v) else (Some [])
  act q (Taken number next) go far s v = if is_some (group_span s number) then (go next s v) else (Some [])

-- From the instruction at q on, at most n instructions deep; none where they go deeper. Consumed text ends by the limit, and in look-around by the text's end.
abbrev pub run : Context → ℕ → List Instruction → ℕ → Go
run x limit code zero q s v = None
run x limit code (suc n) q s v =
    before (Note fetched) (act x limit q (instr_at code q) (run x limit code n) (run x (length x.haystack) code n) s v)

-- from q the code gives these events, at most n instructions deep, and each way stops as P says
abbrev pub CodeGives : Context → ℕ → List Instruction → Ends → ℕ → ℕ → State → List ℕ → List Event → Type 0
CodeGives x limit code P n q s v es = Given P (run x limit code n q s v) es
