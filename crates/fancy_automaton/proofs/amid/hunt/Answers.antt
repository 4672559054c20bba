use Rattle.std.proofs.Common.{◌≡◌, ◌∙◌, ◌<◌, ◌≤◌, ap, arith, length, refl, subst, sym, true, true≢false, List, ℕ, None, Some}
use Rattle.std.specs.List.{list_all}
use Rattle.std.specs.Prelude.{nat_lt, slice_get, slice_index}
use Rattle.std.proofs.lemmas.Option.{IfSome_then, same_Some, slice_get-get_or}
use Rattle.fancy_automaton.specs.Sole.{IsLed, IsSole}
use Rattle.fancy_automaton.specs.declared.hop.Stand.{Stand}
use Rattle.fancy_automaton.specs.declared.sole.Sole.{Sole}
use Rattle.fancy_automaton.proofs.SoleLemmas.{led_found, led_quiet, quiet_entry, quiet_last, quiet_led}
use Rattle.fancy_states.specs.Transitions.{IsOfKind}
use Rattle.fancy_states.specs.declared.cells.Cell.{Cell}
use Rattle.fancy_states.specs.declared.origin.Origin.TheVariants.{Last}
use Rattle.fancy_states.specs.declared.transitions.Kind.{Kind}
use Rattle.fancy_automaton.proofs.amid.hunt.Goals as goal
use Rattle.fancy_automaton.proofs.amid.hunt.Goals.{in-Last, in_default}

pub returns-in-Matching : goal.returns-in-Matching
returns-in-Matching c =
    let a = c.args.attempt.now in
    let cells = c.args.cells.now in
    let m = c.places.at in
    let led = c.places.invariant.led in
    let is = led.here in
    let past = c.in_ok-told.told.past in
    let told = c.in_ok-told.ensures.told cells m.stand.begun c.view-table.ensures is.followed (record { bounded = is.kept; all = is.all }) is.good is.begins in
    let step = c.in_ok-told.told.step.now in
    let found = subst (λ (k : Kind). IsOfKind k cells.table.classes cells.cells.items m.stand.begun told.0 step) c.in-Matching.is told.2 in
    IfSome_then c.found_after.result c.found_after.ensures
    (λ s on. record {
      sole = subst (IsSole a cells) (sym on.1) (led_found a cells m.stand past told.0 step told.1 m led refl found on.0);
      forth = omega (arith, told.1.forth, c.places.invariant.forth, ap (λ (s : Sole). s.stand.place) on.1);
    })

pub returns-then-matches : goal.returns-then-matches
returns-then-matches c =
    let a = c.args.attempt.now in
    let cells = c.args.cells.now in
    let m = c.places.at in
    let led = c.places.invariant.led in
    let is = led.here in
    let past = c.in_ok-told.told.past in
    let step = c.in_ok-told.told.step.now in
    let told = c.in_ok-told.ensures.told cells m.stand.begun c.view-table.ensures is.followed (record { bounded = is.kept; all = is.all }) is.good is.begins in
    let quiet = quiet_entry cells.table.classes cells.cells.items m.stand.begun told.0 step c.in-Quiet.is told.2 in
    let origin : step.origin ≡ Last = elim c.match-matches.branch [
      | in-Last w ↦ w.in-Last.is
      | in_default w ↦ absurd (true≢false (sym c.if-matches.true ∙ w.matches-is))
    ] in
    record {
      sole = subst (λ (st : Stand). IsSole a cells (record { stand = st; start = m.stand.place; end = None })) (sym c.stand_after-stand.ensures)
          (quiet_last a cells m.stand past told.0 step told.1 led.ways led.starts is quiet origin);
      forth = omega (arith, told.1.forth, c.places.invariant.forth, ap (λ (st : Stand). st.place) c.stand_after-stand.ensures);
    }

pub returns-then-led-len : goal.returns-then-led-len
returns-then-led-len c =
    let a = c.args.attempt.now in
    let cells = c.args.cells.now in
    let m = c.places.at in
    let led = c.places.invariant.led in
    let is = led.here in
    let past = c.in_ok-told.told.past in
    let step = c.in_ok-told.told.step.now in
    let told = c.in_ok-told.ensures.told cells m.stand.begun c.view-table.ensures is.followed (record { bounded = is.kept; all = is.all }) is.good is.begins in
    let quiet = quiet_entry cells.table.classes cells.cells.items m.stand.begun told.0 step c.in-Quiet.is told.2 in
    let cell = c.in_ok-cell.cell.now in
    let here : slice_get cells.cells.items step.cell ≡ Some cell = subst (λ (xs : List Cell). slice_get xs step.cell ≡ Some cell) c.deref.ensures.value
    (slice_get-get_or c.deref.result.now step.cell cell c.in_ok-cell.ensures.lookup.3.0 ∙ ap Some (sym c.in_ok-cell.ensures.lookup.1)) in
    let same : c.deref-in-places.result.now ≡ cell.came.items = c.deref-in-places.ensures.value in
    let all : list_all (λ f. nat_lt f m.led) cell.came.items ≡ true = subst (λ (came : List ℕ). list_all (λ f. nat_lt f m.led) came ≡ true) same
    (c.first_below-led.ensures.all (omega (arith, c.if-led-len.true, c.len.ensures, ap (λ (xs : List ℕ). length xs) same))) in
    record {
      sole = subst (λ (st : Stand). IsSole a cells (record { stand = st; start = m.start; end = None })) (sym c.stand_after-stand.ensures)
          (led_quiet a cells m.stand past told.0 step told.1 m led refl quiet
          (λ d there. (subst (λ (e : Cell). list_all (λ f. nat_lt f m.led) e.came.items ≡ true) (same_Some cell d (sym here ∙ there)) all, rw (quiet.1 d there) tt)));
      forth = omega (arith, told.1.forth, c.places.invariant.forth, ap (λ (st : Stand). st.place) c.stand_after-stand.ensures);
    }

pub places-preserved : goal.places-preserved
places-preserved c =
    let a = c.args.attempt.now in
    let cells = c.args.cells.now in
    let m = c.places.at in
    let led = c.places.invariant.led in
    let is = led.here in
    let past = c.in_ok-told.told.past in
    let step = c.in_ok-told.told.step.now in
    let told = c.in_ok-told.ensures.told cells m.stand.begun c.view-table.ensures is.followed (record { bounded = is.kept; all = is.all }) is.good is.begins in
    let quiet = quiet_entry cells.table.classes cells.cells.items m.stand.begun told.0 step c.in-Quiet.is told.2 in
    let cell = c.in_ok-cell.cell.now in
    let here : slice_get cells.cells.items step.cell ≡ Some cell = subst (λ (xs : List Cell). slice_get xs step.cell ≡ Some cell) c.deref.ensures.value
    (slice_get-get_or c.deref.result.now step.cell cell c.in_ok-cell.ensures.lookup.3.0 ∙ ap Some (sym c.in_ok-cell.ensures.lookup.1)) in
    let same : c.deref-in-places.result.now ≡ cell.came.items = c.deref-in-places.ensures.value in
    let n = c.first_below-led.result in
    let first : (n ≤ length cell.came.items) × ((i : ℕ) → i < n → slice_index cell.came.items i < m.led) =
    subst (λ (came : List ℕ). (n ≤ length came) × ((i : ℕ) → i < n → slice_index came i < m.led)) same (c.first_below-led.ensures.within, c.first_below-led.ensures.below) in
    record {
      led = subst (λ (st : Stand). IsLed a cells (record { stand = st; start = m.start; led = n })) (sym c.stand_after-stand.ensures)
          (quiet_led a cells m.stand past told.0 step told.1 m n led refl quiet
          (λ d there. subst (λ (e : Cell). (n ≤ length e.came.items) × ((i : ℕ) → i < n → slice_index e.came.items i < m.led)) (same_Some cell d (sym here ∙ there)) first));
      forth = omega (arith, told.1.forth, c.places.invariant.forth, ap (λ (st : Stand). st.place) c.stand_after-stand.ensures);
    }
