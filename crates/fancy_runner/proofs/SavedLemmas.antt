-- What threads passed and saved, taken out from the oldest on.
use Rattle.std.proofs.Common.{◌≡◌, ℕ, ◌<◌, ◌+◌, List, [], ◌∷◌, ◌++◌, length, get_or, drop, Option, Some, None, refl, sym, ap, ap₂, ◌∙◌}
use Rattle.std.specs.Prelude.{reverse}
use Rattle.std.proofs.lemmas.List.{reverse-append, drop_more}
use Rattle.std.proofs.lemmas.Option.{none-some}
use Rattle.fancy_code.specs.Instructions.{Instruction, Match, Fail, Character, Member, RawByte, Assert, Split, Open, Close, Enter, Commit, Look, Deny, Test, Back, Recall, Keep, Continue, Taken}
use Rattle.fancy_code.specs.Run.{instr_at}
use Rattle.fancy_code.specs.declared.slot.Slot.{Slot}
use Rattle.fancy_runner.specs.declared.pair.Pair.{Pair}
use Rattle.fancy_code.specs.Thread.{Thread}
use Rattle.fancy_runner.specs.Threads.{thread_of, slots_past, other_way, with_way, slots_after, saved_after, threads_at}

-- what is left of a list from an index on begins with what is there
pub next_left : (ps : List Pair) (n : ℕ) (p : Pair) → n < length ps → p ≡ get_or ps n p → drop n ps ≡ p ∷ drop (n + 1) ps
next_left ps n p h e = drop_more ps n p h ∙ ap (λ (q : Pair). q ∷ drop (n + 1) ps) (sym e)

slots_append : (code : List Instruction) (a b : List Pair) (slots : List Slot) → slots_after code (a ++ b) slots ≡ slots_after code a (slots_after code b slots)
slots_append code [] b slots = refl
slots_append code (p ∷ a) b slots = ap (slots_past (instr_at code p.at) p.place) (slots_append code a b slots)

saved_append : (code : List Instruction) (a b : List Pair) (slots : List Slot) (ts : List Thread)
    → saved_after code (a ++ b) slots ts ≡ saved_after code a (slots_after code b slots) (saved_after code b slots ts)
saved_append code [] b slots ts = refl
saved_append code (p ∷ a) b slots ts = ap₂ (with_way (other_way (instr_at code p.at) p.place)) (slots_append code a b slots) (saved_append code a b slots ts)

with_more : (o : Option Pair) (slots : List Slot) (ts us : List Thread) → with_way o slots (ts ++ us) ≡ with_way o slots ts ++ us
with_more None slots ts us = refl
with_more (Some p) slots ts us = refl

saved_more : (code : List Instruction) (a : List Pair) (slots : List Slot) (ts us : List Thread) → saved_after code a slots (ts ++ us) ≡ saved_after code a slots ts ++ us
saved_more code [] slots ts us = refl
saved_more code (p ∷ a) slots ts us =
    ap (with_way (other_way (instr_at code p.at) p.place) (slots_after code a slots)) (saved_more code a slots ts us)
    ∙ with_more (other_way (instr_at code p.at) p.place) (slots_after code a slots) (saved_after code a slots ts) us

threads_append : (slots : List Slot) (a b : List Pair) → threads_at slots (a ++ b) ≡ threads_at slots a ++ threads_at slots b
threads_append slots [] b = refl
threads_append slots (p ∷ a) b = ap (λ (ts : List Thread). thread_of p slots ∷ ts) (threads_append slots a b)

-- a choice writes no slot
choice_writes : (i : Instruction) (place : ℕ) (way : Pair) (slots : List Slot) → other_way i place ≡ Some way → slots_past i place slots ≡ slots
choice_writes Match place way slots e = refl
choice_writes Fail place way slots e = refl
choice_writes (Character c next) place way slots e = refl
choice_writes (Member edges next) place way slots e = refl
choice_writes (RawByte byte next) place way slots e = refl
choice_writes (Assert a next) place way slots e = refl
choice_writes (Split a b) place way slots e = refl
choice_writes (Open group next) place way slots e = absurd (none-some way e)
choice_writes (Close group next) place way slots e = absurd (none-some way e)
choice_writes (Enter body) place way slots e = refl
choice_writes (Commit next) place way slots e = refl
choice_writes (Look behind body next) place way slots e = refl
choice_writes (Deny behind body next) place way slots e = refl
choice_writes (Test body other) place way slots e = refl
choice_writes (Back n next) place way slots e = refl
choice_writes (Recall folded number moved still) place way slots e = refl
choice_writes (Keep next) place way slots e = refl
choice_writes (Continue next) place way slots e = refl
choice_writes (Taken number next) place way slots e = refl

module _ (code : List Instruction) (current : Option Pair) where
  -- the threads once these pairs were passed, the last one first: the one that is followed, if there is one, and those that were saved
  abbrev pub all_after : List Pair → List Slot → List Thread → List Thread
  all_after passed slots ts = with_way current (slots_after code passed slots) (saved_after code passed slots ts)

  -- the oldest branch is the last of them
  pub branch_out : (branches rest passed : List Pair) (b : Pair) (slots : List Slot) → branches ≡ b ∷ rest
      → all_after passed slots (threads_at slots (reverse branches)) ≡ all_after passed slots (threads_at slots (reverse rest)) ++ thread_of b slots ∷ []
  branch_out branches rest passed b slots e =
      ap (λ (ps : List Pair). all_after passed slots (threads_at slots ps)) (ap reverse e ∙ reverse-append (b ∷ []) rest)
      ∙ ap (all_after passed slots) (threads_append slots (reverse rest) (b ∷ []))
      ∙ ap (with_way current (slots_after code passed slots)) (saved_more code passed slots (threads_at slots (reverse rest)) (thread_of b slots ∷ []))
      ∙ with_more current (slots_after code passed slots) (saved_after code passed slots (threads_at slots (reverse rest))) (thread_of b slots ∷ [])

  -- the oldest pair is passed: a group begins or ends there
  passed_alone : (passed rest : List Pair) (p : Pair) (slots : List Slot) → passed ≡ p ∷ rest → other_way (instr_at code p.at) p.place ≡ None
      → all_after (reverse passed) slots [] ≡ all_after (reverse rest) (slots_past (instr_at code p.at) p.place slots) []
  passed_alone passed rest p slots e none =
      ap (λ (ps : List Pair). all_after ps slots []) (ap reverse e ∙ reverse-append (p ∷ []) rest)
      ∙ ap₂ (with_way current) (slots_append code (reverse rest) (p ∷ []) slots)
      (saved_append code (reverse rest) (p ∷ []) slots []
      ∙ ap (λ (o : Option Pair). saved_after code (reverse rest) (slots_past (instr_at code p.at) p.place slots) (with_way o slots [])) none)

  -- or its other way is the last of the threads
  way_alone : (passed rest : List Pair) (p way : Pair) (slots : List Slot) → passed ≡ p ∷ rest → other_way (instr_at code p.at) p.place ≡ Some way
      → all_after (reverse passed) slots [] ≡ all_after (reverse rest) slots [] ++ thread_of way slots ∷ []
  way_alone passed rest p way slots e is =
      let same = choice_writes (instr_at code p.at) p.place way slots is in
      ap (λ (ps : List Pair). all_after ps slots []) (ap reverse e ∙ reverse-append (p ∷ []) rest)
      ∙ ap₂ (with_way current) (slots_append code (reverse rest) (p ∷ []) slots ∙ ap (slots_after code (reverse rest)) same)
      (saved_append code (reverse rest) (p ∷ []) slots []
      ∙ ap₂ (saved_after code (reverse rest)) same (ap (λ (o : Option Pair). with_way o slots []) is)
      ∙ saved_more code (reverse rest) slots [] (thread_of way slots ∷ []))
      ∙ with_more current (slots_after code (reverse rest) slots) (saved_after code (reverse rest) slots []) (thread_of way slots ∷ [])

  -- both where no branch is left
  pub passed_over : (branches passed rest : List Pair) (p : Pair) (slots now : List Slot) → branches ≡ [] → passed ≡ p ∷ rest
      → other_way (instr_at code p.at) p.place ≡ None → now ≡ slots_past (instr_at code p.at) p.place slots
      → all_after (reverse passed) slots (threads_at slots (reverse branches)) ≡ all_after (reverse rest) now (threads_at now (reverse branches))
  passed_over branches passed rest p slots now none e is wrote =
      ap (λ (bs : List Pair). all_after (reverse passed) slots (threads_at slots (reverse bs))) none
      ∙ passed_alone passed rest p slots e is
      ∙ ap (λ (ss : List Slot). all_after (reverse rest) ss []) (sym wrote)
      ∙ ap (λ (bs : List Pair). all_after (reverse rest) now (threads_at now (reverse bs))) (sym none)

  pub way_out : (branches passed rest : List Pair) (p way : Pair) (slots : List Slot) → branches ≡ [] → passed ≡ p ∷ rest
      → other_way (instr_at code p.at) p.place ≡ Some way
      → all_after (reverse passed) slots (threads_at slots (reverse branches))
      ≡ all_after (reverse rest) slots (threads_at slots (reverse branches)) ++ thread_of way slots ∷ []
  way_out branches passed rest p way slots none e is =
      ap (λ (bs : List Pair). all_after (reverse passed) slots (threads_at slots (reverse bs))) none
      ∙ way_alone passed rest p way slots e is
      ∙ ap (λ (bs : List Pair). all_after (reverse rest) slots (threads_at slots (reverse bs)) ++ thread_of way slots ∷ []) (sym none)
