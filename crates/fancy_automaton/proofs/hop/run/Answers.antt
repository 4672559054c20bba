use Rattle.std.proofs.Common.{◌≡◌, ◌∙◌, ap, arith, refl, subst, sym, List, Option, Some, ℕ}
use Rattle.std.specs.Prelude.{slice_get}
use Rattle.std.proofs.lemmas.Option.{slice_get-get_or}
use Rattle.fancy_code.specs.Attempt.{context_in}
use Rattle.fancy_alphabet.specs.Classes.{IsStart}
use Rattle.fancy_automaton.specs.declared.hop.Stand.{Stand}
use Rattle.fancy_states.specs.declared.cells.Cell.{Cell}
use Rattle.fancy_states.specs.Cells.{row_if}
use Rattle.fancy_automaton.specs.Sole.{Waits, stood}
use Rattle.fancy_input.specs.declared.span.Span.{Span}
use Rattle.fancy_states.specs.Search.{begun_if}
use Rattle.fancy_states.specs.Starts.{starts_from}
use Rattle.fancy_states.proofs.CellLemmas.{row_within}
use Rattle.fancy_automaton.proofs.HopLemmas.{row_starts}
use Rattle.fancy_automaton.proofs.SoleLemmas.{waits_on}
use Rattle.fancy_automaton.proofs.hop.run.Goals as goal

pub ahead_of-requires : goal.ahead_of-requires
ahead_of-requires c =
    let here = c.requires.waits.1 in
    let low = row_within c.args.cells.now.rows.lists.items c.args.from.next _ here.waits in
    record { row = omega (arith, low, here.kept.rows); start = here.begins }

pub places-init : goal.places-init
places-init c =
    let here = c.requires.waits.1 in
    let from = c.args.from in
    record {
      waits = c.requires.waits;
      begins = subst (IsStart (context_in c.args.attempt.now) from.place c.args.cells.now.table.classes (row_if c.args.found.now from.next from.begun)) (sym c.start_of_row-row.ensures)
          (row_starts (context_in c.args.attempt.now) from.place c.args.cells.now.table.classes c.args.found.now from.next from.begun c.ahead_of.result from.opened c.ahead_of.ensures here.begins);
      passed = omega arith;
    }

pub places-preserved : goal.places-preserved
places-preserved c =
    let a = c.args.attempt.now in
    let cells = c.args.cells.now in
    let x = context_in a in
    let classes = cells.table.classes in
    let at = c.places.at in
    let starts = c.places.starts.waiting.items in
    let found = c.places.found in
    let here = c.places.invariant.waits.1 in
    let row = row_if found at.next at.begun in
    let past = c.in-Some.told.past in
    let step = c.in-Some-known_step.step in
    let cell = c.in-Some-get.cell.now in
    let told = c.in-Some.ensures.told cells row c.view-table.ensures here.followed (record { bounded = here.kept; all = here.all }) here.good c.places.invariant.begins in
    let is = c.in-Some-known_step.ensures cells row told.0 told.2 in
    let there : slice_get cells.cells.items step.cell ≡ Some cell = subst (λ (xs : List Cell). slice_get xs step.cell ≡ Some cell) c.deref.ensures.value
    (slice_get-get_or c.deref.result.now step.cell cell c.in-Some-get.ensures.lookup.3.0 ∙ ap Some (sym c.in-Some-get.ensures.lookup.1)) in
    let next = waits_on a cells at starts found row past told.0 step cell told.1 c.places.invariant.waits refl is there in
    let e = c.stand_after-at.ensures in
    record {
      waits = subst (λ (st : Stand). Waits a cells st c.step.new.self.waiting.items c.step.new.found) (sym e)
          (subst (λ (ss : List ℕ). Waits a cells (stood past step) ss c.step.new.found) (sym c.in_ok-step.ensures.starts)
          (subst (λ (o : Option Span). Waits a cells (stood past step) (starts_from (begun_if found starts at.place) cell.came.items) o) (sym c.in_ok-step.ensures.found) next));
      begins = subst (λ (st : Stand). IsStart x st.place classes (row_if c.step.new.found st.next st.begun) c.start_of_row-row-in-places.result) (sym e)
          (subst (IsStart x past classes (row_if c.step.new.found step.next step.begun)) (sym c.start_of_row-row-in-places.ensures)
          (row_starts x past classes c.step.new.found step.next step.begun step.ahead step.opened
          (told.1.begins step.next step.ahead is.ahead) (told.1.begins step.begun step.opened is.opened)));
      passed = omega (arith, c.places.invariant.passed, told.1.forth, ap (λ (st : Stand). st.place) e);
    }
