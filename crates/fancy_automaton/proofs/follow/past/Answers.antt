use Rattle.std.proofs.Common.{List, None, ap, arith, replicate, length, Option, Some, ℕ, subst, sym}
use Rattle.fancy_states.specs.Transitions.{IsOfKind}
use Rattle.fancy_states.specs.declared.transitions.Kind.{Kind}
use Rattle.fancy_automaton.specs.declared.hop.Stand.{Stand}
use Rattle.fancy_automaton.specs.Sole.{IsAt, IsSole, stood}
use Rattle.fancy_states.specs.Starts.{match_from}
use Rattle.fancy_automaton.proofs.SoleLemmas.{found_earlier, found_last, idle_sole, quiet_amid}
use Rattle.fancy_automaton.proofs.follow.past.Goals as goal
use Rattle.fancy_automaton.proofs.follow.past.Goals.{in-Last, in-Earlier}

pub returns : goal.returns
returns c =
    let a = c.args.attempt.now in
    let cells = c.args.cells.now in
    let at = c.args.at.stand in
    let here = subst (λ (o : Option ℕ). (ways : List ℕ) × IsAt a cells at ways (replicate (length ways) c.args.at.start) (match_from c.args.at.start o)) c.requires.nothing c.requires.sole in
    let is = here.1 in
    let past = c.in_ok-told.told.past in
    let seen = c.in_ok-told.ensures.told cells at.begun c.view-table.ensures is.followed (record { bounded = is.kept; all = is.all }) is.good is.begins in
    let step = c.in_ok-told.told.step.now in
    let told = subst (λ (k : Kind). IsOfKind k cells.table.classes cells.cells.items at.begun seen.0 step) c.in-Matching.is seen.2 in
    record {
      sole = subst (λ (st : Stand). IsSole a cells (record { stand = st; start = c.match-step-2.start; end = Some at.place })) (sym c.stand_after-2.ensures)
          (elim c.match-step-2.branch [
            | in-Last w ↦ subst (λ (s : ℕ). IsSole a cells (record { stand = stood past step; start = s; end = Some at.place })) (sym w.start-is)
                (found_last a cells at past seen.0 step seen.1 here.0 _ is told w.in-Last.is)
            | in-Earlier w ↦ subst (λ (s : ℕ). IsSole a cells (record { stand = stood past step; start = s; end = Some at.place })) (sym w.start-is)
                (found_earlier a cells at past seen.0 step seen.1 here.0 c.args.at.start is told w.in-Earlier.is)
          ]);
      forth = omega (arith, seen.1.forth, ap (λ (st : Stand). st.place) c.stand_after-2.ensures);
    }

pub skip-requires-in-Some-clause-sole : goal.skip-requires-in-Some-clause-sole
skip-requires-in-Some-clause-sole c =
    let a = c.args.attempt.now in
    let cells = c.args.cells.now in
    let at = c.args.at.stand in
    let here = subst (λ (o : Option ℕ). (ways : List ℕ) × IsAt a cells at ways (replicate (length ways) c.args.at.start) (match_from c.args.at.start o)) c.requires.nothing c.requires.sole in
    let is = here.1 in
    let past = c.in_ok-told.told.past in
    let seen = c.in_ok-told.ensures.told cells at.begun c.view-table.ensures is.followed (record { bounded = is.kept; all = is.all }) is.good is.begins in
    let told = c.in-Some.ensures cells at.begun seen.0 seen.2 in
    subst (λ (st : Stand). IsSole a cells (record { stand = st; start = at.place; end = None })) (sym c.stand_after.ensures)
    (idle_sole a cells (stood past c.in-Some.step) c.args.idle at.place c.requires.idle c.if-step-idle.false (quiet_amid a cells at past seen.0 c.in-Some.step seen.1 here.0 _ is told))
