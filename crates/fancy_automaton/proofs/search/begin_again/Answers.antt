use Rattle.std.proofs.Common.{◌≡◌, ◌∙◌, [], None, Option, ℕ, arith, length, refl, replicate, subst, sym}
use Rattle.fancy_code.specs.declared.attempt.Attempt.{Attempt}
use Rattle.fancy_states.specs.Cells.{HasRows, ways_at}
use Rattle.fancy_states.specs.Search.{Going}
use Rattle.fancy_states.specs.Starts.{match_from}
use Rattle.fancy_states.specs.declared.cells.Cells.{Cells}
use Rattle.fancy_states.specs.declared.rows.Target.{Target}
use Rattle.fancy_states.proofs.CellLemmas.{row_ways}
use Rattle.fancy_automaton.specs.Sole.{IsAt, IsSole}
use Rattle.fancy_automaton.specs.declared.sole.Sole.{Sole}
use Rattle.fancy_automaton.proofs.GoingLemmas.{going_end, going_idle}
use Rattle.fancy_automaton.proofs.SoleLemmas.{no_ways}
use Rattle.fancy_automaton.proofs.search.begin_again.Goals as goal

idle_at : (a : Attempt) (cells : Cells) (at : Sole) → IsSole a cells at → at.end ≡ None → ways_at cells.rows.lists.items at.stand.next ≡ []
    → HasRows cells.rows.lists.items at.stand.next at.stand.begun [] a.code.now.start × Going a [] [] None at.stand.place at.stand.place
idle_at a cells at is nothing idle =
    no_ways a cells at.stand is.0 (replicate (length is.0) at.start) (sym (row_ways cells.rows.lists.items at.stand.next is.0 is.1.waits) ∙ idle)
    (subst (λ (o : Option ℕ). IsAt a cells at.stand is.0 (replicate (length is.0) at.start) (match_from at.start o)) nothing is.1)

pub new-requires : goal.new-requires
new-requires c =
    let a = c.args.attempt.now in
    let at = c.args.at in
    let here = c.requires.sole.1 in
    let idle = idle_at a c.args.cells.now at c.requires.sole c.requires.nothing c.requires.idle in
    let place = c.next_start-place.ensures in
    record {
      followed = here.followed;
      kept = record { bounded = here.kept; all = here.all };
      rows = subst (λ (t : Target). HasRows c.args.cells.now.rows.lists.items t.next t.begun [] a.code.now.start) (sym c.rows.ensures) idle.0;
      going = going_idle a [] [] None at.stand.place c.next_start-place.result place.forth place.ends refl place.passed idle.1;
      good = place.good (omega (arith, c.if-place-attempt.false));
      within = omega (arith, c.if-place-attempt.false);
    }

pub returns-then-place-attempt-clause-none : goal.returns-then-place-attempt-clause-none
returns-then-place-attempt-clause-none c deep begun =
    let a = c.args.attempt.now in
    let at = c.args.at in
    let idle = idle_at a c.args.cells.now at c.requires.sole c.requires.nothing c.requires.idle in
    let place = c.next_start-place.ensures in
    going_end a [] [] None c.next_start-place.result deep c.if-place-attempt.true place.ends begun
    (going_idle a [] [] None at.stand.place c.next_start-place.result place.forth place.ends refl place.passed idle.1)
