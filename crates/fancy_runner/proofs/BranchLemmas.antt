-- The alternatives that code opens with: what it gives from them is what it gives from its first instruction.
use Rattle.std.proofs.Common.{◌≡◌, ℕ, zero, suc, ◌+◌, ◌<◌, ◌≤◌, Bool, List, [], ◌∷◌, length, drop, get_or, Option, Some, None, true, false, if◌then◌else◌, inl, inr, refl, sym, ap, ap₂, subst, ◌∙◌, arith, slice_index, true≢false}
use Rattle.std.specs.Option.{option_or}
use Rattle.std.specs.Prelude.{replicate}
use Rattle.std.proofs.lemmas.Bool.{cases_lt}
use Rattle.std.proofs.lemmas.List.{map-set}
use Rattle.std.proofs.lemmas.Option.{get_or_from_slice_get}
use Rattle.fancy_prefilter.specs.Keys.{IsAmong, RiseBetween}
use Rattle.fancy_bytes.specs.Openings.{StandsBefore}
use Rattle.fancy_prefilter.specs.KeyTables.{MayStand}
use Rattle.fancy_input.specs.declared.span.Span.{Span}
use Rattle.fancy_tree.specs.declared.tree.Assertion.{Assertion}
use Rattle.fancy_code.specs.Attempt.{instrs_in, context_in, may_end_in}
use Rattle.fancy_runner.specs.Attempt.{first_accepted_in, begins_in, begins_with, passes_in, KnownIn}
use Rattle.fancy_code.specs.Branches.{AreBranches, Chooses, OpensTo, TestsTo, dues_in}
use Rattle.fancy_meaning.specs.Context.{Context, State, moved_to}
use Rattle.fancy_meaning.specs.Events.{return, outcome}
use Rattle.fancy_code.specs.Instructions.{Instruction, Split}
use Rattle.fancy_code.specs.Marking.{due_in}
use Rattle.fancy_code.specs.Run.{Raw, Note, Stop, choice_opened, returned, fetched, AllStops, Foretells, erase, instr_at}
use Rattle.fancy_code.specs.Thread.{Known, thread_run, events_of, first_accepted, ends_well, Thread, empty_slot, slot_from, state_of, starts_of}
use Rattle.fancy_runner.specs.Runner.{Parted, found_state}
use Rattle.fancy_code.specs.Texts.{IsTextOf}
use Rattle.fancy_runner.specs.Threads.{slot_at, begun_slot, with_group}
use Rattle.fancy_prefilter.specs.declared.text.Text.{Text}
use Rattle.fancy_prefilter.specs.declared.branches.Branches.{Branches}
use Rattle.fancy_code.specs.declared.attempt.Attempt.{Attempt}
use Rattle.fancy_code.specs.declared.slot.Slot.{Slot}
use Rattle.fancy_code.proofs.ForetoldLemmas.{foretells_imply}
use Rattle.fancy_runner.proofs.RunnerLemmas.{first_or}
use Rattle.fancy_runner.proofs.RunnerSteps.{asserted, opened, parted, refuted}
use Rattle.fancy_code.proofs.TextLemmas.{given_events}
use Rattle.fancy_runner.proofs.ThreadsLemmas.{open_spans}

-- where no way stops, there is no outcome

no_stop : (ok : State → Bool) (w : List Raw) → AllStops (λ q s v. ⊥) w → first_accepted ok (erase w) ≡ None
no_stop ok [] h = refl
no_stop ok (Note choice_opened ∷ w) h = no_stop ok w h
no_stop ok (Note returned ∷ w) h = no_stop ok w h
no_stop ok (Note fetched ∷ w) h = no_stop ok w h
no_stop ok (Stop q s v ∷ w) h = absurd h.0

pub told_none : (ok : State → Bool) (o : Option (List Raw)) → Foretells ⊥ o → first_accepted ok (events_of o) ≡ None
told_none ok None h = refl
told_none ok (Some w) h = no_stop ok w h

-- an attempt from the first instruction on, by the alternatives

module _ (ok : State → Bool) (x : Context) (limit : ℕ) (code : List Instruction) (deep kept place : ℕ) (slots : List Slot) where
  abbrev pub head_at : ℕ → Thread
  head_at q = record { at = q; place = place; slots = slots }

  -- the first outcome from an instruction on
  abbrev pub first_at : ℕ → Option State
  first_at q = first_accepted ok (events_of (thread_run x limit code deep kept (head_at q)))

  abbrev KnownAt : ℕ → Type 0
  KnownAt q = Known x limit code deep kept (head_at q)

  split_known : (q h next : ℕ) → instr_at code q ≡ Split h next → KnownAt q → Parted x limit code deep kept (head_at q) (head_at h) (head_at next)
  split_known q h next is known = parted x limit code deep kept (head_at q) known h next (head_at h) (head_at next) is refl refl refl refl refl refl refl

  split_first : (q h next : ℕ) → instr_at code q ≡ Split h next → KnownAt q → first_at q ≡ option_or (first_at h) (first_at next)
  split_first q h next is known =
      let p = split_known q h next is known in
      ap (first_accepted ok) p.2 ∙ first_or ok (events_of (thread_run x limit code deep kept (head_at h))) (return ∷ events_of (thread_run x limit code deep kept (head_at next)))

  pub chosen_known : (q : ℕ) (hs : List ℕ) → Chooses code q hs → KnownAt q → (j : ℕ) → j < length hs → KnownAt (slice_index hs j)
  chosen_known q [] chooses known j lt = absurd chooses
  chosen_known q (h ∷ hs) chooses known zero lt =
      elim chooses [
        | inl last ↦ subst KnownAt last.1 known
        | inr more ↦ (split_known q h more.0 more.1 known).0
      ]
  chosen_known q (h ∷ hs) chooses known (suc j) lt =
      elim chooses [
        | inl last ↦ absurd (omega (arith, lt, ap length last.0))
        | inr more ↦ chosen_known more.0 hs more.2 (split_known q h more.0 more.1 known).1 j (omega (arith, lt))
      ]

  pub chosen_none : (q : ℕ) (hs : List ℕ) → Chooses code q hs → KnownAt q → ((j : ℕ) → j < length hs → first_at (slice_index hs j) ≡ None) → first_at q ≡ None
  chosen_none q [] chooses known none = absurd chooses
  chosen_none q (h ∷ hs) chooses known none =
      elim chooses [
        | inl last ↦ ap first_at last.1 ∙ none 0 (omega arith)
        | inr more ↦
            split_first q h more.0 more.1 known
            ∙ ap₂ option_or (none 0 (omega arith)) (chosen_none more.0 hs more.2 (split_known q h more.0 more.1 known).1 (λ j lt. none (suc j) (omega (arith, lt))))
      ]

  pub chosen_some : (q : ℕ) (hs : List ℕ) → Chooses code q hs → KnownAt q → (j : ℕ) → j < length hs → ((i : ℕ) → i < j → first_at (slice_index hs i) ≡ None)
      → (s : State) → Some s ≡ first_at (slice_index hs j) → Some s ≡ first_at q
  chosen_some q [] chooses known j lt none s some = absurd chooses
  chosen_some q (h ∷ hs) chooses known zero lt none s some =
      elim chooses [
        | inl last ↦ some ∙ sym (ap first_at last.1)
        | inr more ↦ sym (split_first q h more.0 more.1 known ∙ ap (λ (o : Option State). option_or o (first_at more.0)) (sym some))
      ]
  chosen_some q (h ∷ hs) chooses known (suc j) lt none s some =
      elim chooses [
        | inl last ↦ absurd (omega (arith, lt, ap length last.0))
        | inr more ↦
            chosen_some more.0 hs more.2 (split_known q h more.0 more.1 known).1 j (omega (arith, lt)) (λ i less. none (suc i) (omega (arith, less))) s some
            ∙ sym (split_first q h more.0 more.1 known ∙ ap (λ (o : Option State). option_or o (first_at more.0)) (none 0 (omega arith)))
      ]

-- what comes before the alternatives

module _ (a : Attempt) (place kept deep : ℕ) where
  -- the state at the place where the match will have begun at `kept`
  abbrev state_with : ℕ → ℕ → List (Option Span) → State
  state_with kept place captures = record { place = place; captures = captures; kept = kept }

  -- a test that holds leads on
  tested_on : (o : Option Assertion) (q next : ℕ) → TestsTo (instrs_in a) o q next → KnownIn a kept deep (begins_in a q place) → passes_in a o place ≡ true
      → KnownIn a kept deep (begins_in a next place) × (first_accepted_in a kept deep (begins_in a q place) ≡ first_accepted_in a kept deep (begins_in a next place))
  tested_on None q next same known e = (
    subst (λ (i : ℕ). KnownIn a kept deep (begins_in a i place)) same known,
    ap (λ (i : ℕ). first_accepted_in a kept deep (begins_in a i place)) same,
  )
  tested_on (Some t) q next is known e =
      let went = asserted (context_in a) a.last (instrs_in a) deep kept (begins_in a q place).current known t next (begins_in a next place).current is e refl refl refl in
      (went.0, went.1 (ends_well (may_end_in a)))

  -- and one that does not hold, nowhere
  tested_off : (o : Option Assertion) (q next : ℕ) → TestsTo (instrs_in a) o q next → KnownIn a kept deep (begins_in a q place) → passes_in a o place ≡ false
      → None ≡ first_accepted_in a kept deep (begins_in a q place)
  tested_off None q next same known e = absurd (true≢false e)
  tested_off (Some t) q next is known e =
      sym (ap (first_accepted (ends_well (may_end_in a))) (refuted (context_in a) a.last (instrs_in a) deep kept (begins_in a q place).current known t next is e))

  -- a group begins
  pub opened_on : (o : Option ℕ) (q next : ℕ) → OpensTo (instrs_in a) o q next → KnownIn a kept deep (begins_in a q place)
      → KnownIn a kept deep (begins_with a o next place) × (first_accepted_in a kept deep (begins_in a q place) ≡ first_accepted_in a kept deep (begins_with a o next place))
  opened_on None q next same known = (
    subst (λ (i : ℕ). KnownIn a kept deep (begins_in a i place)) same known,
    ap (λ (i : ℕ). first_accepted_in a kept deep (begins_in a i place)) same,
  )
  opened_on (Some g) q next is known =
      let slots : List Slot = replicate a.code.now.groups empty_slot in
      let went = opened (context_in a) a.last (instrs_in a) deep kept (begins_in a q place).current known g next (begins_with a (Some g) next place).current is refl
      (ap (λ (l : List (Option Span)). state_with kept place l) (open_spans slots g place (get_or slots g empty_slot) refl))
      (map-set slot_from slots g (begun_slot (slot_at slots g) place)) in
      (went.0, went.1 (ends_well (may_end_in a)))

module _ (a : Attempt) (b : Branches) (place kept deep : ℕ) (is : AreBranches b (instrs_in a) a.code.now.meaning a.code.now.start)
    (known : KnownIn a kept deep (begins_in a a.code.now.start place)) where
  module _ (passes : passes_in a b.lead.test place ≡ true) where
    after_test : KnownIn a kept deep (begins_in a is.leads.0 place) × (first_accepted_in a kept deep (begins_in a a.code.now.start place) ≡ first_accepted_in a kept deep (begins_in a is.leads.0 place))
    after_test = tested_on a place kept deep b.lead.test a.code.now.start is.leads.0 is.leads.1 known passes

    pub lead_known : KnownIn a kept deep (begins_with a b.lead.group b.lead.at place)
    lead_known = (opened_on a place kept deep b.lead.group is.leads.0 b.lead.at is.leads.2 after_test.0).0

    pub lead_same : first_accepted_in a kept deep (begins_with a b.lead.group b.lead.at place) ≡ first_accepted_in a kept deep (begins_in a a.code.now.start place)
    lead_same = sym (after_test.1 ∙ (opened_on a place kept deep b.lead.group is.leads.0 b.lead.at is.leads.2 after_test.0).1)

  pub lead_none : passes_in a b.lead.test place ≡ false → None ≡ first_accepted_in a kept deep (begins_in a a.code.now.start place)
  lead_none fails = tested_off a place kept deep b.lead.test a.code.now.start is.leads.0 is.leads.1 known fails

-- the same of an attempt that begins with what comes before the alternatives
module _ (a : Attempt) (b : Branches) (place kept deep : ℕ) (is : AreBranches b (instrs_in a) a.code.now.meaning a.code.now.start) where
  abbrev slots : List Slot
  slots = with_group b.lead.group place (replicate a.code.now.groups empty_slot)

  -- an alternative that may not match has no outcome
  pub head_none : ((k : ℕ) → slice_index a.haystack.now k < 256) → (j : ℕ) → j < length b.heads.items → ¬ MayStand b.table a.haystack.now a.last place j
      → first_accepted_in a kept deep (begins_with a b.lead.group (slice_index b.heads.items j) place) ≡ None
  head_none bytes j lt not =
      let t : Thread = head_at (ends_well (may_end_in a)) (context_in a) a.last (instrs_in a) deep kept place slots (slice_index b.heads.items j) in
      told_none (ends_well (may_end_in a)) (thread_run (context_in a) a.last (instrs_in a) deep kept t)
      (is.told j lt (context_in a) a.last deep (state_of kept t) (starts_of t) refl bytes not)

  module _ (known : KnownIn a kept deep (begins_with a b.lead.group b.lead.at place)) where
    pub head_known : (j : ℕ) → j < length b.heads.items → KnownIn a kept deep (begins_with a b.lead.group (slice_index b.heads.items j) place)
    head_known = chosen_known (ends_well (may_end_in a)) (context_in a) a.last (instrs_in a) deep kept place slots b.lead.at b.heads.items is.chooses known

    pub all_none : ((j : ℕ) → j < length b.heads.items → first_accepted_in a kept deep (begins_with a b.lead.group (slice_index b.heads.items j) place) ≡ None)
        → None ≡ first_accepted_in a kept deep (begins_with a b.lead.group b.lead.at place)
    all_none none = sym (chosen_none (ends_well (may_end_in a)) (context_in a) a.last (instrs_in a) deep kept place slots b.lead.at b.heads.items is.chooses known none)

    pub one_some : (j : ℕ) → j < length b.heads.items → ((i : ℕ) → i < j → first_accepted_in a kept deep (begins_with a b.lead.group (slice_index b.heads.items i) place) ≡ None)
        → (s : State) → Some s ≡ first_accepted_in a kept deep (begins_with a b.lead.group (slice_index b.heads.items j) place) → Some s ≡ first_accepted_in a kept deep (begins_with a b.lead.group b.lead.at place)
    one_some = chosen_some (ends_well (may_end_in a)) (context_in a) a.last (instrs_in a) deep kept place slots b.lead.at b.heads.items is.chooses known

-- an alternative that begins with a text
module _ (a : Attempt) (t : Text) (group : Option ℕ) (head place kept deep : ℕ) (is : IsTextOf t (instrs_in a) a.code.now.meaning head) where
  abbrev begun : Thread
  begun = head_at (ends_well (may_end_in a)) (context_in a) a.last (instrs_in a) deep kept place (with_group group place (replicate a.code.now.groups empty_slot)) head

  -- where that does not stand, there is no outcome
  pub text_none : ¬ StandsBefore a.haystack.now a.last t.bytes.items place → None ≡ first_accepted_in a kept deep (begins_with a group head place)
  text_none lacks =
      sym (told_none (ends_well (may_end_in a)) (thread_run (context_in a) a.last (instrs_in a) deep kept begun)
      (foretells_imply (StandsBefore a.haystack.now a.last t.bytes.items place) ⊥ lacks (thread_run (context_in a) a.last (instrs_in a) deep kept begun)
      (is.begins (context_in a) a.last deep (state_of kept begun) (starts_of begun) refl)))

  module _ (all : t.is_all ≡ true) (known : KnownIn a kept deep (begins_with a group head place)) (stands : StandsBefore a.haystack.now a.last t.bytes.items place) where
    -- where it is all of the alternative and stands, its end is the one outcome
    text_events : events_of (thread_run (context_in a) a.last (instrs_in a) deep kept begun) ≡ outcome (moved_to (state_of kept begun) (place + length t.bytes.items)) ∷ []
    text_events =
        given_events (outcome (moved_to (state_of kept begun) (place + length t.bytes.items)) ∷ []) (thread_run (context_in a) a.last (instrs_in a) deep kept begun) known
        (is.ends all (context_in a) a.last deep (state_of kept begun) (starts_of begun) refl stands)

    text_first : (b : Bool) → may_end_in a (place + length t.bytes.items) ≡ b
        → first_accepted_in a kept deep (begins_with a group head place) ≡ (if b then Some (moved_to (state_of kept begun) (place + length t.bytes.items)) else None)
    text_first b e =
        ap (first_accepted (ends_well (may_end_in a))) text_events
        ∙ ap (λ (c : Bool). if c then Some (moved_to (state_of kept begun) (place + length t.bytes.items)) else None) e

    pub text_missed : may_end_in a (place + length t.bytes.items) ≡ false → None ≡ first_accepted_in a kept deep (begins_with a group head place)
    text_missed e = sym (text_first false e)

    pub text_found : may_end_in a (place + length t.bytes.items) ≡ true → (slots : List Slot) → slots ≡ with_group group place (replicate a.code.now.groups empty_slot)
        → found_state kept (Some (place + length t.bytes.items)) slots ≡ first_accepted_in a kept deep (begins_with a group head place)
    text_found e slots same = ap (λ (l : List Slot). found_state kept (Some (place + length t.bytes.items)) l) same ∙ sym (text_first true e)

-- what is due for the alternatives that are left

at_most_more : (more n m : ℕ) → n ≤ m → n ≤ more + m
at_most_more more n m le = omega (arith, le)

dues_suc : (numbers : List (Option ℕ)) (weights hs : List ℕ) (p j : ℕ) → p ≤ j → j < length hs
    → due_in numbers weights (slice_index hs j) + dues_in numbers weights (drop (suc j) hs) ≤ dues_in numbers weights (drop p hs)
dues_suc numbers weights [] p j le lt = absurd (omega (arith, lt))
dues_suc numbers weights (h ∷ hs) zero zero le lt = omega arith
dues_suc numbers weights (h ∷ hs) zero (suc j) le lt =
    at_most_more (due_in numbers weights h) _ (dues_in numbers weights hs) (dues_suc numbers weights hs zero j (omega arith) (omega (arith, lt)))
dues_suc numbers weights (h ∷ hs) (suc p) zero le lt = absurd (omega (arith, le))
dues_suc numbers weights (h ∷ hs) (suc p) (suc j) le lt = dues_suc numbers weights hs p j (omega (arith, le)) (omega (arith, lt))

pub dues_left : (numbers : List (Option ℕ)) (weights hs : List ℕ) (p j : ℕ) → p ≤ j → j < length hs
    → due_in numbers weights (slice_index hs j) + dues_in numbers weights (drop (j + 1) hs) ≤ dues_in numbers weights (drop p hs)
dues_left numbers weights hs p j le lt =
    let next : suc j ≡ j + 1 = omega arith in
    subst (λ (k : ℕ). due_in numbers weights (slice_index hs j) + dues_in numbers weights (drop k hs) ≤ dues_in numbers weights (drop p hs)) next
    (dues_suc numbers weights hs p j le lt)

-- numbers of a key that rise

module _ (members : List ℕ) (from to passed i number : ℕ) (rise : RiseBetween members from to) (inside : to ≤ length members) (low : from ≤ i) (high : i < to)
    (is : slice_index members i ≡ number) (seen : (k : ℕ) → from ≤ k → k < i → slice_index members k < passed) where
  -- what is between those that were passed and the next one is not among them
  pub between : (j : ℕ) → passed ≤ j → j < number → IsAmong members from to j → ⊥
  between j past less among =
      let there = get_or_from_slice_get members among.0 j 0 among.3 in
      elim (cases_lt among.0 i) [
        | inl before ↦ omega (arith, there, seen among.0 among.1 before, past)
        | inr after ↦ elim (cases_lt i among.0) [
          | inl later ↦ omega (arith, there, is, rise i among.0 low later among.2 (omega (arith, among.2, inside)), less)
          | inr not ↦
              let same : among.0 ≡ i = omega (arith, after, not) in
              omega (arith, there, is, ap (slice_index members) same, less)
        ]
      ]

-- past the last of them there is none
pub beyond : (members : List ℕ) (from to passed i : ℕ) → to ≤ i → ((k : ℕ) → from ≤ k → k < i → slice_index members k < passed)
    → (j : ℕ) → passed ≤ j → IsAmong members from to j → ⊥
beyond members from to passed i end seen j past among =
    omega (arith, get_or_from_slice_get members among.0 j 0 among.3, seen among.0 among.1 (omega (arith, among.2, end)), past)
