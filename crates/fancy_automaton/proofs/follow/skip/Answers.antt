use Rattle.std.proofs.Common.{[], None, Option, ℕ, arith, length, refl, replicate, subst}
use Rattle.fancy_automaton.specs.Sole.{IsAmid, IsAt}
use Rattle.fancy_states.specs.Starts.{match_from}
use Rattle.fancy_automaton.proofs.GoingLemmas.{going_idle}
use Rattle.fancy_automaton.proofs.SoleLemmas.{idle_rows}
use Rattle.fancy_automaton.proofs.follow.skip.Goals as goal

pub new-requires : goal.new-requires
new-requires c =
    let a = c.args.attempt.now in
    let cells = c.args.cells.now in
    let from = c.args.from in
    let is = c.requires.sole in
    let here = subst (λ (o : Option ℕ). IsAt a cells from.stand is.0 (replicate (length is.0) from.start) (match_from from.start o)) c.requires.nothing is.1 in
    let amid : IsAmid a cells from.stand = (is.0, replicate (length is.0) from.start, here) in
    let idle = idle_rows a cells from.stand c.args.idle c.requires.idle c.if-from-idle.false amid in
    let place = c.next_place-place.ensures in
    record {
      followed = here.followed;
      kept = record { bounded = here.kept; all = here.all };
      rows = idle.0;
      going = going_idle a [] [] None from.stand.place c.next_place-place.result place.forth place.ends refl place.passed idle.1;
      good = place.good (omega (arith, c.if-place-attempt.false));
      within = omega (arith, c.if-place-attempt.false);
    }
