use Rattle.std.proofs.Common.{refl, subst}
use Rattle.fancy_states.specs.Transitions.{IsOfKind}
use Rattle.fancy_states.specs.declared.transitions.Kind.{Kind}
use Rattle.fancy_automaton.specs.Sole.{stood}
use Rattle.fancy_automaton.proofs.EarliestLemmas.{table_match, waits_at}
use Rattle.fancy_automaton.proofs.SoleLemmas.{quiet_amid}
use Rattle.fancy_automaton.proofs.earliest.pass.Goals as goal

pub returns-in-Matching-clause-found : goal.returns-in-Matching-clause-found
returns-in-Matching-clause-found c none =
    let a = c.args.attempt.now in
    let cells = c.args.cells.now in
    let at = c.args.at in
    let is = c.requires.amid.2 in
    let seen = c.in-Some.ensures.told cells at.begun c.view.ensures is.followed (record { bounded = is.kept; all = is.all }) is.good is.begins in
    let step = c.in-Some.told.step.now in
    let told = subst (λ (k : Kind). IsOfKind k cells.table.classes cells.cells.items at.begun seen.0 step) c.in-Matching.is seen.2 in
    table_match a cells at c.in-Some.told.past seen.0 step seen.1 c.requires.amid told

pub returns-in-Some-quiet_step-clause-waits : goal.returns-in-Some-quiet_step-clause-waits
returns-in-Some-quiet_step-clause-waits c =
    let a = c.args.attempt.now in
    let cells = c.args.cells.now in
    let at = c.args.at in
    let amid = c.requires.amid in
    let is = amid.2 in
    let past = c.in-Some.told.past in
    let step = c.in-Some-quiet_step.step in
    let seen = c.in-Some.ensures.told cells at.begun c.view.ensures is.followed (record { bounded = is.kept; all = is.all }) is.good is.begins in
    waits_at a cells (stood past step) past (record { next = step.next; begun = step.begun }) refl refl refl
    (quiet_amid a cells at past seen.0 step seen.1 amid.0 amid.1 is (c.in-Some-quiet_step.ensures cells at.begun seen.0 seen.2))
