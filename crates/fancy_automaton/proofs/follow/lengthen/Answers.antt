use Rattle.std.proofs.Common.{◌∙◌, ap, arith, Option, option_map, ℕ, subst, sym, is_some}
use Rattle.fancy_automaton.specs.Decided.{Opens}
use Rattle.fancy_automaton.specs.Sole.{came_to}
use Rattle.fancy_states.specs.Transitions.{IsOfKind}
use Rattle.fancy_states.specs.declared.transitions.Kind.{Kind}
use Rattle.fancy_automaton.proofs.SoleLemmas.{quiet_entry}
use Rattle.fancy_automaton.proofs.WalkLemmas.{Walked, walked_found, walked_quiet}
use Rattle.fancy_automaton.proofs.follow.lengthen.Goals as goal
use Rattle.fancy_automaton.proofs.follow.lengthen.Goals.{in-Quiet, in-Matching}

pub places-preserved : goal.places-preserved
places-preserved c =
    let a = c.args.attempt.now in
    let cells = c.args.cells.now in
    let at = came_to c.args.from.stand c.places.place (option_map (λ t. t.now) c.places.last) in
    let placed = c.places.invariant.placed in
    let past = c.in-Some.told.past in
    let step = c.in-Some.told.step.now in
    let seen = c.in-Some.ensures.told cells at.next c.view-table.ensures c.requires.followed c.requires.kept placed.good c.places.invariant.starts in
    let walked : Walked a cells at past step c.places.end c.match-step.end =
    elim c.match-step.branch [
      | in-Quiet w ↦ subst (λ (o : Option ℕ). Walked a cells at past step c.places.end o) (sym w.end-is)
          (walked_quiet a cells at past seen.0 step seen.1 c.requires.followed c.requires.kept c.places.invariant.row placed
          (quiet_entry cells.table.classes cells.cells.items at.next seen.0 step w.in-Quiet.is seen.2) c.places.end)
      | in-Matching w ↦ subst (λ (o : Option ℕ). Walked a cells at past step c.places.end o) (sym w.end-is)
          (walked_found a cells at past seen.0 step seen.1 c.requires.followed c.requires.kept c.places.invariant.row placed
          (subst (λ (k : Kind). IsOfKind k cells.table.classes cells.cells.items at.next seen.0 step) w.in-Matching.is seen.2) c.places.end)
    ] in
    record {
      row = walked.row;
      placed = walked.placed;
      starts = walked.starts;
      forth = omega (arith, c.places.invariant.forth, seen.1.forth);
      found = λ some. elim c.match-step.branch [
        | in-Quiet w ↦ ap (λ (o : Option ℕ). is_some o) w.end-is ∙ c.places.invariant.found some
        | in-Matching w ↦ ap (λ (o : Option ℕ). is_some o) w.end-is
      ];
      decided = λ goal is. walked.decided goal c.args.from.start (c.places.invariant.decided goal is);
      opens = λ is. walked.opens;
    }

pub returns-clause-opens : goal.returns-clause-opens
returns-clause-opens c is = subst (Opens c.args.attempt.now c.args.cells.now) (sym c.came_to.ensures) (c.places.invariant.opens is)
