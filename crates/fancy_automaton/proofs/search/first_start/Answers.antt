use Rattle.std.proofs.Common.{◌≡◌, ◌∙◌, List, [], None, ap, arith, length, refl, replicate, sym, ℕ}
use Rattle.fancy_states.specs.Starts.{match_from}
use Rattle.fancy_states.proofs.CellLemmas.{row_ways, row_within}
use Rattle.fancy_automaton.proofs.BeginLemmas.{idle_begins, sole_begins}
use Rattle.fancy_automaton.proofs.GoingLemmas.{going_idle, going_same}
use Rattle.fancy_automaton.proofs.search.first_start.Goals as goal

pub is_idle-requires : goal.is_idle-requires
is_idle-requires c = row_within c.args.cells.now.rows.lists.items c.args.at.stand.next c.requires.sole.0 c.requires.sole.1.waits

pub returns-then-is_idle-clause-begins : goal.returns-then-is_idle-clause-begins
returns-then-is_idle-clause-begins c =
    let a = c.args.attempt.now in
    let at = c.args.at in
    let place = at.stand.place in
    let is = c.requires.sole in
    let next = c.next_start.ensures in
    let none : is.0 ≡ [] = sym (row_ways c.args.cells.now.rows.lists.items at.stand.next is.0 is.1.waits) ∙ c.is_idle.ensures.idle c.if-is_idle.true in
    let here = going_same a is.0 [] (replicate (length is.0) at.start) [] (match_from at.start at.end) None place place place none
    (ap (λ (ws : List ℕ). replicate (length ws) at.start) none) (ap (match_from at.start) (c.is_idle.ensures.nothing c.if-is_idle.true)) refl is.1.going in
    idle_begins a c.next_start.result (going_idle a [] [] None place c.next_start.result next.forth next.ends refl next.passed here)

pub returns-clause-begins : goal.returns-clause-begins
returns-clause-begins c =
    let at = c.args.at in
    let is = c.requires.sole in
    sole_begins c.args.attempt.now at.start at.stand.place c.min.result at.end is.0 (omega (arith, c.min.ensures)) (omega (arith, c.min.ensures)) is.1.going
