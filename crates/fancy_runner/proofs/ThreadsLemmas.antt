-- The slots, and the pairs that were passed.
use Rattle.std.proofs.Common.{◌≡◌, ℕ, zero, suc, ◌==◌, true, List, [], ◌∷◌, ◌++◌, length, map, set, get_or, refl, sym, ap, ◌∙◌, subst, arith}
use Rattle.std.proofs.lemmas.List.{reverse-append, map-set, nil_from_length}
use Rattle.std.proofs.lemmas.Bool.Decides.{nat_tests}
use Rattle.std.specs.Prelude.{Option, Some, slice_index, reverse}
use Rattle.fancy_input.specs.declared.span.Span.{Span}
use Rattle.fancy_input.specs.Spans.{from_to}
use Rattle.fancy_code.specs.declared.slot.Slot.{Slot}
use Rattle.fancy_runner.specs.declared.pair.Pair.{Pair}
use Rattle.fancy_code.specs.Instructions.{Instruction}
use Rattle.fancy_code.specs.Run.{instr_at}
use Rattle.fancy_code.specs.Thread.{Thread, empty_slot, slot_span, slot_from}
use Rattle.fancy_runner.specs.Threads.{slots_past, other_way, with_way, slots_after, saved_after, thread_of, threads_at}
use Rattle.fancy_code.proofs.ThreadLemmas.{get_or_mapped}

-- a write of what is there
pub map_kept : {A B : Type 0} (f : A → B) (xs : List A) (k : ℕ) (x d : A) → f x ≡ f (get_or xs k d) → map f (set xs k x) ≡ map f xs
map_kept f [] k x d e = refl
map_kept f (y ∷ xs) zero x d e = ap (λ b. b ∷ map f xs) e
map_kept f (y ∷ xs) (suc k) x d e = ap (λ bs. f y ∷ bs) (map_kept f xs k x d e)

-- a group begins: its span stays
pub open_spans : (slots : List Slot) (g p : ℕ) (slot : Slot) → slot ≡ get_or slots g empty_slot
    → map slot_span (set slots g (record { from = p; span = slot.span })) ≡ map slot_span slots
open_spans slots g p slot e = map_kept slot_span slots g (record { from = p; span = slot.span }) empty_slot (ap slot_span e)

-- a group ends: where it began stays
pub close_starts : (slots : List Slot) (g : ℕ) (o : Option Span) (slot : Slot) → slot ≡ get_or slots g empty_slot
    → map slot_from (set slots g (record { from = slot.from; span = o })) ≡ map slot_from slots
close_starts slots g o slot e = map_kept slot_from slots g (record { from = slot.from; span = o }) empty_slot (ap slot_from e)

pub close_spans : (slots : List Slot) (g p : ℕ) (slot : Slot) → slot ≡ get_or slots g empty_slot
    → map slot_span (set slots g (record { from = slot.from; span = Some (from_to slot.from p) }))
    ≡ set (map slot_span slots) g (Some (from_to (slice_index (map slot_from slots) g) p))
close_spans slots g p slot e =
    map-set slot_span slots g (record { from = slot.from; span = Some (from_to slot.from p) })
    ∙ ap (λ (f : ℕ). set (map slot_span slots) g (Some (from_to f p))) (ap slot_from e ∙ sym (get_or_mapped slot_from slots g empty_slot))

-- the pair that was passed last has this other way, or none
pub saved_by : (code : List Instruction) (before after : List Pair) (p : Pair) → after ≡ before ++ p ∷ []
    → (o : Option Pair) → other_way (instr_at code p.at) p.place ≡ o → (slots : List Slot) (ts : List Thread)
    → saved_after code (reverse after) slots ts
    ≡ with_way o (slots_after code (reverse before) slots) (saved_after code (reverse before) slots ts)
saved_by code before after p e o is slots ts =
    ap (λ (ps : List Pair). saved_after code ps slots ts) (ap reverse e ∙ reverse-append before (p ∷ []))
    ∙ ap (λ (x : Option Pair). with_way x (slots_after code (reverse before) slots) (saved_after code (reverse before) slots ts)) is

is_zero : (n : ℕ) → true ≡ (n == 0) → n ≡ 0
is_zero n h = grind (arith, nat_tests)

pub no_pairs : (ps : List Pair) (n : ℕ) → n ≡ length ps → true ≡ (n == 0) → ps ≡ []
no_pairs ps n e h = nil_from_length ps (sym e ∙ is_zero n h)

module _ (code : List Instruction) (i : Instruction) (place : ℕ) (slots now : List Slot) (is : now ≡ slots_past i place slots) where
  -- the instruction was passed, and the slots were written at once
  abbrev pub WroteAlone : List Pair → List Pair → Type 0
  WroteAlone branches passed = (slots_after code passed now ≡ slots_past i place (slots_after code passed slots))
      × (saved_after code passed now (threads_at now branches) ≡ saved_after code passed slots (threads_at slots branches))

  -- so it is where no branch is saved and no pair was passed
  pub wrote_alone : (branches passed : List Pair) → branches ≡ [] → passed ≡ [] → WroteAlone (reverse branches) (reverse passed)
  wrote_alone branches passed none fresh =
      subst (λ (bs : List Pair). WroteAlone (reverse bs) (reverse passed)) (sym none)
      (subst (λ (ps : List Pair). WroteAlone [] (reverse ps)) (sym fresh) (is, refl))

-- where no thread is saved, none is, whatever the slots
pub none_at : (a b : List Slot) (ps : List Pair) → threads_at a ps ≡ [] → threads_at b ps ≡ []
none_at a b [] e = refl
none_at a b (p ∷ ps) e = let none : length (thread_of p a ∷ threads_at a ps) ≡ 0 = ap length e in absurd (omega (arith, none))
