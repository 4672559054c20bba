use Rattle.std.proofs.Common.{refl}
use Rattle.fancy_automaton.proofs.FrontLemmas.{front_advanced}
use Rattle.fancy_automaton.proofs.front.Front.step.Goals as goal

pub returns-clause-step : goal.returns-clause-step
returns-clause-step c = record {
  front = front_advanced c.args.attempt.now c.args.cells.now c.step_at.new.cells c.args.self.now _ c.args.place c.row-row.result c.seen_at-sight.result
      c.in_ok-k.k c.index-cell.result.now c.place_after.result
      c.requires.stands.within c.requires.stands.good c.requires.stands.front c.row-row.ensures (c.seen_at-sight.ensures.told c.requires.stands.front.all)
      c.step_at.ensures.kept c.step_at.ensures.rows c.in_ok-k.ensures.cell c.index-cell.ensures
      refl refl c.in_ok-step.ensures.starts c.in_ok-step.ensures.found c.place_after.ensures.after;
  ends = c.place_after.ensures.ends;
}
