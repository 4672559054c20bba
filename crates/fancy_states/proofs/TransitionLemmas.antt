-- The table of a search.
use Rattle.std.proofs.Common.{◌≡◌, ◌≢◌, ℕ, ◌+◌, ◌*◌, ◌/◌, ◌<◌, ◌≤◌, ◌⊎◌, inl, inr, [], ◌∷◌, ◌++◌, List, Option, Some, refl, sym, ap, ap₂, ◌∙◌, subst, arith, length, get_or, set}
use Rattle.std.specs.Prelude.{slice_get}
use Rattle.std.proofs.lemmas.Bool.Decides.{eqb_tells}
use Rattle.std.proofs.lemmas.List.{get_or-set_same, get_or-set_other, length-append}
use Rattle.std.proofs.lemmas.Option.{slice_get_cases}
use Rattle.fancy_states.specs.declared.cells.Cell.{Cell}
use Rattle.fancy_states.specs.declared.transitions.Transition.{Transition}
use Rattle.fancy_states.specs.declared.transitions.Kind.{Kind}
use Rattle.fancy_states.specs.declared.transitions.Kind.TheVariants.{Unknown, Quiet, Mixed, Matching}
use Rattle.fancy_states.specs.declared.transitions.Transitions.{Transitions}
use Rattle.fancy_states.specs.declared.slots.Slot.{Slot}
use Rattle.fancy_states.specs.declared.slots.Slots.{Slots}
use Rattle.fancy_states.specs.Slots.{ComeFrom, IsIn, blank, nothing, unknown}
use Rattle.std.specs.Global.{Vec}
use Rattle.fancy_alphabet.specs.declared.classes.Classes.{Classes}
use Rattle.std.proofs.lemmas.Nat.{div-mul-add}
use Rattle.fancy_alphabet.specs.Classes.{IsColumn, first_of, member_of, member_or, row_start, sight_for, sight_of}
use Rattle.fancy_alphabet.specs.Sides.{number_of, sides_of}
use Rattle.fancy_alphabet.specs.declared.side.Side.{Side}
use Rattle.fancy_alphabet.specs.declared.sight.Sight.{Sight}
use Rattle.fancy_alphabet.proofs.NumberLemmas.{number_same}
use Rattle.std.proofs.Math.Nat.{mul-le-mul_right}
use Rattle.fancy_code.specs.declared.code.Code.{Code}
use Rattle.fancy_code.specs.Code.{instrs_of}
use Rattle.fancy_alphabet.specs.Classes.{AreClasses}
use Rattle.fancy_states.specs.declared.cells.Cells.{Cells}
use Rattle.fancy_states.specs.Cells.{GrowsBy, HasPlace, HoldsFor, IsCell, IsFor, KeepsCells}
use Rattle.fancy_states.proofs.CellLemmas.{cells_more, grown}
use Rattle.fancy_states.specs.Transitions.{AreTold, IsEntry, IsOfKind, IsSlot, IsTransition, entry_at, slot_sight}

other_part : (p q a b w : ℕ) → p ≡ q → p * w + a ≡ q * w + b → a ≡ b
other_part p q a b w e f =
    let g : p * w ≡ q * w = ap (λ (n : ℕ). n * w) e in
    omega (arith, f, g)

-- what the table has of a row and a column
pub told_entry : (cells : List Cell) (table : Transitions) (row column : ℕ) (sight : Sight) (t : Transition) → AreTold cells table → IsColumn table.classes sight column
    → t ≡ entry_at table row column → IsEntry table.classes cells row sight t
told_entry cells table row column sight t told is e = subst (IsEntry table.classes cells row sight) (sym e) (by (entry_at table row column).kind refl) where
  by : (k : Kind) → (entry_at table row column).kind ≡ k → IsOfKind k table.classes cells row sight (entry_at table row column)
  by Unknown same = tt
  by Quiet same = told.quiet row column sight is same
  by Mixed same = told.mixed row column sight is same
  by Matching same = told.matching row column sight is same

-- what a slot has
pub told_slot : (cells : List Cell) (table : Transitions) (s : Slot) → AreTold cells table → IsIn table.slots.items.items s → IsSlot table.classes cells s
told_slot cells table s told is some row before low begins = by s.entry.kind refl where
  by : (k : Kind) → s.entry.kind ≡ k → IsOfKind k table.classes cells row (slot_sight before s) s.entry
  by Unknown same = tt
  by Quiet same = told.apart_quiet s is some row before low begins same
  by Mixed same = told.apart_mixed s is some row before low begins same
  by Matching same = told.apart_matching s is some row before low begins same

-- each entry and each slot is such a step
are_told : (cells : List Cell) (table : Transitions)
    → ((row column : ℕ) (sight : Sight) → IsColumn table.classes sight column → IsEntry table.classes cells row sight (entry_at table row column))
    → ((s : Slot) → IsIn table.slots.items.items s → IsSlot table.classes cells s) → AreTold cells table
are_told cells table entries slots = record {
  quiet = λ row column sight is e. entry Quiet row column sight is e;
  mixed = λ row column sight is e. entry Mixed row column sight is e;
  matching = λ row column sight is e. entry Matching row column sight is e;
  apart_quiet = λ s is some row before low begins e. slot Quiet s is some row before low begins e;
  apart_mixed = λ s is some row before low begins e. slot Mixed s is some row before low begins e;
  apart_matching = λ s is some row before low begins e. slot Matching s is some row before low begins e;
} where
  entry : (k : Kind) (row column : ℕ) (sight : Sight) → IsColumn table.classes sight column → (entry_at table row column).kind ≡ k
      → IsOfKind k table.classes cells row sight (entry_at table row column)
  entry k row column sight is e = subst (λ (x : Kind). IsOfKind x table.classes cells row sight (entry_at table row column)) e (entries row column sight is)

  slot : (k : Kind) (s : Slot) → IsIn table.slots.items.items s → s.code ≢ nothing → (row : ℕ) (before : Side) → number_of before < sides_of table.classes.tests
      → s.start ≡ row_start table.classes row before → s.entry.kind ≡ k → IsOfKind k table.classes cells row (slot_sight before s) s.entry
  slot k s is some row before low begins e =
      subst (λ (x : Kind). IsOfKind x table.classes cells row (slot_sight before s) s.entry) e (slots s is some row before low begins)

-- more cells
module _ (cells later : List Cell) (grown : KeepsCells cells later) (longer : length cells ≤ length later) where
  stays : (k : ℕ) → k < length cells → (c : Cell) → slice_get later k ≡ Some c → slice_get cells k ≡ Some c
  stays k lt c e =
      elim (slice_get_cases cells k).1 [
        | inr past ↦ absurd (omega (arith, past.0, lt))
        | inl here ↦ (let both : Some here.0 ≡ Some c = sym (grown k here.0 here.2) ∙ e in here.2 ∙ both)
      ]

  more_transition : (classes : Classes) (row : ℕ) (sight : Sight) (t : Transition) → IsTransition classes cells row sight t → IsTransition classes later row sight t
  more_transition classes row sight t is = record {
    stands = omega (arith, is.stands, longer);
    from = λ c e. is.from c (stays t.cell is.stands c e);
    on = λ c e. is.on c (stays t.cell is.stands c e);
    next = λ c e. is.next c (stays t.cell is.stands c e);
    begun = λ c e. is.begun c (stays t.cell is.stands c e);
    origin = λ c e. is.origin c (stays t.cell is.stands c e);
    ahead = is.ahead;
    opened = is.opened;
  }

  more_of_kind : (k : Kind) (classes : Classes) (row : ℕ) (sight : Sight) (t : Transition) → IsOfKind k classes cells row sight t → IsOfKind k classes later row sight t
  more_of_kind Unknown classes row sight t is = tt
  more_of_kind Quiet classes row sight t is = (more_transition classes row sight t is.0, λ c at. is.1 c (stays t.cell is.0.stands c at), is.2)
  more_of_kind Mixed classes row sight t is = (more_transition classes row sight t is.0, λ c at. is.1 c (stays t.cell is.0.stands c at))
  more_of_kind Matching classes row sight t is = (more_transition classes row sight t is.0, λ c at. is.1 c (stays t.cell is.0.stands c at))

  pub told_more : (table : Transitions) → AreTold cells table → AreTold later table
  told_more table told =
      are_told later table
      (λ row column sight is. more_of_kind (entry_at table row column).kind table.classes row sight (entry_at table row column)
      (told_entry cells table row column sight (entry_at table row column) told is refl))
      (λ s is some row before low begins. more_of_kind s.entry.kind table.classes row (slot_sight before s) s.entry
      (told_slot cells table s told is some row before low begins))

-- the column of what is seen is one of the table
pub column_within : (classes : Classes) (sight : Sight) (column : ℕ) → IsColumn classes sight column → column < classes.width
column_within classes sight column is =
    let n = number_of sight.before in
    let w = length classes.members.items in
    let up : (n + 1) * w ≤ sides_of classes.tests * w = mul-le-mul_right w (omega (arith, is.side)) in
    let one : (n + 1) * w ≡ n * w + w = omega arith in
    omega (arith, is.column, is.known, classes.wide, up, one)

-- and nothing else is seen in it
column_same : (classes : Classes) (a b : Sight) (column : ℕ) → IsColumn classes a column → IsColumn classes b column → a ≡ b
column_same classes a b column is also =
    let w = length classes.members.items in
    let n = number_of a.before in
    let m = number_of b.before in
    let same : n * w + is.class ≡ m * w + also.class = sym is.column ∙ also.column in
    let sides : n ≡ m = sym (div-mul-add n w is.class is.known) ∙ ap (λ (k : ℕ). k / w) same ∙ div-mul-add m w also.class also.known in
    let classes_same : is.class ≡ also.class = other_part n m is.class also.class w sides same in
    is.sight ∙ ap₂ (λ (s : Side) (c : ℕ). sight_of classes s (member_of classes c)) (number_same a.before b.before sides) classes_same ∙ sym also.sight

-- the entry at a place among all
abbrev entry_in : List Transition → Classes → ℕ → ℕ → Transition
entry_in entries classes row column = get_or entries (row * classes.width + column) unknown

-- the same classes, and entries that the table told, or that are steps
pub told_by : (cells : List Cell) (table later : Transitions) → later.classes ≡ table.classes → AreTold cells table
    → ((s : Slot) → IsIn later.slots.items.items s → IsSlot table.classes cells s)
    → ((row column : ℕ) (sight : Sight) → IsColumn table.classes sight column → (entry_in later.entries.items table.classes row column ≡ entry_at table row column)
    ⊎ IsEntry table.classes cells row sight (entry_in later.entries.items table.classes row column)) → AreTold cells later
told_by cells table later same told slots each =
    are_told cells later
    (λ row column sight is.
    (let there = subst (λ (k : Classes). IsColumn k sight column) same is in
    subst (λ (k : Classes). IsEntry k cells row sight (entry_in later.entries.items k row column)) (sym same)
    (elim (each row column sight there) [
      | inl kept ↦ told_entry cells table row column sight (entry_in later.entries.items table.classes row column) told there kept
      | inr told ↦ told
    ])))
    (λ s is. subst (λ (k : Classes). IsSlot k cells s) (sym same) (slots s is))

-- the slots are the same
same_slots : (cells : List Cell) (table later : Transitions) → later.slots ≡ table.slots → AreTold cells table
    → (s : Slot) → IsIn later.slots.items.items s → IsSlot table.classes cells s
same_slots cells table later same told s is = told_slot cells table s told (subst (λ (x : Slots). IsIn x.items.items s) same is)

-- the entries are the same
pub told_same : (cells : List Cell) (table later : Transitions) → later.classes ≡ table.classes → later.slots ≡ table.slots
    → ((i : ℕ) → get_or later.entries.items i unknown ≡ get_or table.entries.items i unknown) → AreTold cells table → AreTold cells later
told_same cells table later classes slots same told =
    told_by cells table later classes told (same_slots cells table later slots told) (λ row column sight is. inl (same (row * table.classes.width + column)))

-- the entries are the same, and each slot is one that was there, or the step from its rows
pub told_left : (cells : List Cell) (table later : Transitions) → later.classes ≡ table.classes → later.entries ≡ table.entries
    → ((s : Slot) → IsIn later.slots.items.items s → IsIn table.slots.items.items s ⊎ IsSlot table.classes cells s) → AreTold cells table → AreTold cells later
told_left cells table later classes entries slots told =
    told_by cells table later classes told
    (λ s is. elim (slots s is) [
      | inl there ↦ told_slot cells table s told there
      | inr new ↦ new
    ])
    (λ row column sight is. inl (ap (λ (es : Vec Transition). get_or es.items (row * table.classes.width + column) unknown) entries))

pub blank_slot : (classes : Classes) (cells : List Cell) → IsSlot classes cells blank
blank_slot classes cells some = absurd (some refl)

-- the same table with one more slot
pub told_with : (cells : List Cell) (table : Transitions) (slots : Slots) (s : Slot) → ComeFrom table.slots.items.items s slots.items.items → IsSlot table.classes cells s
    → AreTold cells table → AreTold cells (record { classes = table.classes; entries = table.entries; slots = slots })
told_with cells table slots s come is told =
    told_left cells table (record { classes = table.classes; entries = table.entries; slots = slots }) refl refl
    (λ x there. elim (come x there) [
      | inl same ↦ inr (subst (IsSlot table.classes cells) (sym same) is)
      | inr old ↦ inl old
    ]) told

-- a row and a side are told by where its columns begin for it
start_apart : (classes : Classes) (row row' : ℕ) (side side' : Side) → 0 < length classes.members.items → number_of side < sides_of classes.tests → number_of side' < sides_of classes.tests
    → row_start classes row side ≡ row_start classes row' side' → (row ≡ row') × (side ≡ side')
start_apart classes row row' side side' some low low' same =
    let m = length classes.members.items in
    let n = number_of side in
    let k = number_of side' in
    let up : (n + 1) * m ≤ sides_of classes.tests * m = mul-le-mul_right m (omega (arith, low)) in
    let up' : (k + 1) * m ≤ sides_of classes.tests * m = mul-le-mul_right m (omega (arith, low')) in
    let one : (n + 1) * m ≡ n * m + m = omega arith in
    let one' : (k + 1) * m ≡ k * m + m = omega arith in
    let under : n * m < classes.width = omega (arith, up, one, some, classes.wide) in
    let under' : k * m < classes.width = omega (arith, up', one', some, classes.wide) in
    let rows : row ≡ row' =
    sym (div-mul-add row classes.width (n * m) under) ∙ ap (λ (i : ℕ). i / classes.width) same ∙ div-mul-add row' classes.width (k * m) under' in
    let firsts : n * m ≡ k * m = other_part row row' (n * m) (k * m) classes.width rows same in
    let more : n * m + 0 ≡ k * m + 0 = omega (arith, firsts) in
    let sides : n ≡ k = sym (div-mul-add n m 0 some) ∙ ap (λ (i : ℕ). i / m) more ∙ div-mul-add k m 0 some in
    (rows, number_same side side' sides)

-- the step from a row on a character is that from each row whose columns begin there
pub slot_is : (classes : Classes) (cells : List Cell) (row : ℕ) (sight : Sight) (s : Slot) → 0 < length classes.members.items → number_of sight.before < sides_of classes.tests
    → s.start ≡ row_start classes row sight.before → slot_sight sight.before s ≡ sight → IsEntry classes cells row sight s.entry → IsSlot classes cells s
slot_is classes cells row sight s some low start seen entry known row' before low' begins =
    let same = start_apart classes row row' sight.before before some low low' (sym start ∙ begins) in
    subst (λ (b : Side). IsEntry classes cells row' (slot_sight b s) s.entry) same.1
    (subst (λ (r : ℕ). IsEntry classes cells r (slot_sight sight.before s) s.entry) same.0
    (subst (λ (x : Sight). IsEntry classes cells row x s.entry) (sym seen) entry))

-- one entry is put in
pub told_set : (cells : List Cell) (table later : Transitions) (row column : ℕ) (sight : Sight) (x : Transition) → later.classes ≡ table.classes → later.slots ≡ table.slots
    → later.entries.items ≡ set table.entries.items (row * table.classes.width + column) x
    → row * table.classes.width + column < length table.entries.items → IsColumn table.classes sight column → IsEntry table.classes cells row sight x
    → AreTold cells table → AreTold cells later
told_set cells table later row column sight x classes slots put within is entry told = told_by cells table later classes told (same_slots cells table later slots told) each where
  each : (r b : ℕ) (seen : Sight) → IsColumn table.classes seen b → (entry_in later.entries.items table.classes r b ≡ entry_at table r b)
      ⊎ IsEntry table.classes cells r seen (entry_in later.entries.items table.classes r b)
  each r b seen also =
      let w = table.classes.width in
      let now : entry_in later.entries.items table.classes r b ≡ get_or (set table.entries.items (row * w + column) x) (r * w + b) unknown =
      ap (λ (es : List Transition). get_or es (r * w + b) unknown) put in
      elim (eqb_tells (r * w + b) (row * w + column)) [
        | inl same ↦ (
            let low = column_within table.classes sight column is in
            let under = column_within table.classes seen b also in
            let rows : row ≡ r = sym (div-mul-add row w column low) ∙ ap (λ (n : ℕ). n / w) (sym same.1) ∙ div-mul-add r w b under in
            let columns : column ≡ b = other_part row r column b w rows (sym same.1) in
            let sights : sight ≡ seen = column_same table.classes sight seen b (subst (IsColumn table.classes sight) columns is) also in
            let there : x ≡ entry_in later.entries.items table.classes r b =
            sym (get_or-set_same table.entries.items (row * w + column) x unknown within) ∙ ap (λ (i : ℕ). get_or (set table.entries.items (row * w + column) x) i unknown) (sym same.1) ∙ sym now in
            inr (subst (λ (n : ℕ). IsEntry table.classes cells n seen (entry_in later.entries.items table.classes r b)) rows
            (subst (λ (s : Sight). IsEntry table.classes cells row s (entry_in later.entries.items table.classes r b)) sights
            (subst (IsEntry table.classes cells row sight) there entry))))
        | inr away ↦ inl (now ∙ get_or-set_other table.entries.items (row * w + column) (r * w + b) x unknown away.1)
      ]

-- a cell is put behind the others
pub told_pushed : (cells later : List Cell) (c : Cell) (table : Transitions) → later ≡ cells ++ c ∷ [] → AreTold cells table → AreTold later table
told_pushed cells later c table e told =
    let size = ap length e ∙ length-append cells (c ∷ []) in
    told_more cells later (grown cells later c e) (omega (arith, size)) table told

-- one more step is remembered, with its rows, and the table may tell it
pub holds_more : (code : Code) (cells later : Cells) (row : ℕ) (sight : Sight) (c : Cell) (told : List Cell) → HasPlace cells → IsFor cells code
    → GrowsBy 2 cells.rows.lists.items later.rows.lists.items → later.cells.items ≡ cells.cells.items ++ c ∷ [] → c.row ≡ row → c.sight ≡ sight
    → IsCell code later.rows.lists.items row sight c.next c.begun c.came.items c.matched c.origin
    → told ≡ later.cells.items → (AreTold told cells.table → AreTold told later.table) → later.table.classes ≡ cells.table.classes → HoldsFor later code
holds_more code cells later row sight c told place all rows more from on is same tells classes =
    let size = ap length more ∙ length-append cells.cells.items (c ∷ []) in
    record {
      bounded = record {
        rows = omega (arith, rows.more, place.rows);
        cells = omega (arith, size, place.cells);
        told = subst (λ (cs : List Cell). AreTold cs later.table) same
            (tells (subst (λ (cs : List Cell). AreTold cs cells.table) (sym same) (told_pushed cells.cells.items later.cells.items c cells.table more place.told)));
      };
      all = (
        cells_more code cells.rows.lists.items later.rows.lists.items cells.cells.items later.cells.items row sight c rows.kept all.0 more from on is,
        subst (λ (k : Classes). AreClasses k (instrs_of code)) (sym classes) all.1,
      );
    }

-- what the table has of a row and a character, after a side that is told apart
pub told_at : (cells : List Cell) (table : Transitions) (row byte column : ℕ) (before : Side) (e : Transition) → slice_get table.classes.columns.items byte ≡ Some column
    → number_of before < sides_of table.classes.tests → e ≡ get_or table.entries.items (row_start table.classes row before + column) unknown
    → AreTold cells table → IsEntry table.classes cells row (sight_for table.classes before byte) e
told_at cells table row byte column before e here seen is told =
    let place : row_start table.classes row before + column ≡ row * table.classes.width + (first_of table.classes before + column) = omega arith in
    told_entry cells table row (first_of table.classes before + column) (sight_for table.classes before byte) e told
    (record {
      class = column;
      known = table.classes.known byte column here;
      side = seen;
      sight = ap (λ (o : Option ℕ). sight_of table.classes before (member_or table.classes o byte)) here;
      column = refl;
    }) (is ∙ ap (λ (n : ℕ). get_or table.entries.items n unknown) place)

-- an entry is put in on a character that stands for its class
pub told_noted : (cells : List Cell) (table made later : Transitions) (row column : ℕ) (sight : Sight) (x : Transition) → IsColumn table.classes sight column → made.classes ≡ table.classes → made.slots ≡ table.slots
    → ((i : ℕ) → get_or made.entries.items i unknown ≡ get_or table.entries.items i unknown)
    → row * made.classes.width + made.classes.width ≤ length made.entries.items → later.classes ≡ made.classes → later.slots ≡ made.slots
    → later.entries.items ≡ set made.entries.items (row * made.classes.width + column) x → AreTold cells table → IsEntry table.classes cells row sight x
    → AreTold cells later
told_noted cells table made later row column sight x is classes slots same room kept stay put told entry =
    let there : IsColumn made.classes sight column = subst (λ (k : Classes). IsColumn k sight column) (sym classes) is in
    let low = column_within made.classes sight column there in
    told_set cells made later row column sight x kept stay put (omega (arith, room, low)) there
    (subst (λ (k : Classes). IsEntry k cells row sight x) (sym classes) entry) (told_same cells table made classes slots same told)
