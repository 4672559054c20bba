use Rattle.std.proofs.Common.{◌≡◌, ap, arith, option_map, refl, subst, sym}
use Rattle.fancy_code.specs.Attempt.{context_in}
use Rattle.fancy_alphabet.specs.Classes.{IsStart}
use Rattle.fancy_automaton.specs.declared.hop.Stand.{Stand}
use Rattle.fancy_states.specs.declared.transitions.Kind.{Kind}
use Rattle.fancy_states.specs.declared.transitions.Kind.TheVariants.{Mixed}
use Rattle.fancy_automaton.specs.Sole.{IsAmid, came_to, stood}
use Rattle.fancy_states.specs.Transitions.{IsOfKind}
use Rattle.fancy_automaton.proofs.SoleLemmas.{quiet_amid}
use Rattle.fancy_automaton.proofs.earliest.glide.Goals as goal
use Rattle.fancy_automaton.proofs.earliest.glide.Goals.{in-Quiet, in-Mixed, in-Mixed-2}

pub places-preserved : goal.places-preserved
places-preserved c =
    let a = c.args.attempt.now in
    let cells = c.args.cells.now in
    let at = came_to c.args.from c.places.place (option_map (λ t. t.now) c.places.last) in
    let amid = c.places.invariant.amid in
    let is = amid.2 in
    let past = c.in-Some.told.past in
    let step = c.in-Some.told.step.now in
    let seen = c.in-Some.ensures.told cells at.begun c.view-table.ensures is.followed (record { bounded = is.kept; all = is.all }) is.good
    (subst (IsStart (context_in a) at.place cells.table.classes at.begun) (sym c.places.invariant.row) is.begins) in
    let mixed : step.kind ≡ Mixed → IsAmid a cells (stood past step) = λ is_mixed.
    quiet_amid a cells at past seen.0 step seen.1 amid.0 amid.1 is (subst (λ (k : Kind). IsOfKind k cells.table.classes cells.cells.items at.begun seen.0 step) is_mixed seen.2) in
    record {
      amid = elim c.match-step.branch [
        | in-Quiet w ↦ (
            let told = subst (λ (k : Kind). IsOfKind k cells.table.classes cells.cells.items at.begun seen.0 step) w.in-Quiet.is seen.2 in
            quiet_amid a cells at past seen.0 step seen.1 amid.0 amid.1 is (told.0, told.1))
        | in-Mixed w ↦ mixed w.in-Mixed.is
        | in-Mixed-2 w ↦ mixed w.in-Mixed-2.is
      ];
      row = refl;
      forth = omega (arith, c.places.invariant.forth, seen.1.forth);
    }

pub returns-clause-amid : goal.returns-clause-amid
returns-clause-amid c = subst (λ (st : Stand). IsAmid c.args.attempt.now c.args.cells.now st) (sym c.came_to.ensures) c.places.invariant.amid

pub returns-clause-forth : goal.returns-clause-forth
returns-clause-forth c = omega (arith, c.places.invariant.forth, ap (λ (st : Stand). st.place) c.came_to.ensures)
