use Rattle.std.proofs.Common.{◌∙◌, ap, length}
use Rattle.fancy_states.proofs.CellLemmas.{row_within}
use Rattle.fancy_automaton.proofs.FrontLemmas.{front_waits}
use Rattle.fancy_automaton.proofs.GoingLemmas.{going_idle}
use Rattle.fancy_states.proofs.SearchLemmas.{no_items}
use Rattle.fancy_automaton.proofs.front.Front.seek.Goals as goal

pub has_waiting-requires : goal.has_waiting-requires
has_waiting-requires c = row_within c.args.cells.now.rows.lists.items c.args.self.now.next _ c.requires.front.waits

pub returns-then-has_waiting-clause-good : goal.returns-then-has_waiting-clause-good
returns-then-has_waiting-clause-good c le =
    (front_waits c.args.attempt.now c.args.cells.now c.args.self.now c.args.place c.requires.front (c.has_waiting.ensures.some c.if-has_waiting.true)).0

pub returns-clause-front : goal.returns-clause-front
returns-clause-front c =
    let f = c.args.self.now in
    let is = c.requires.front in
    let next = c.next_start.ensures in
    record {
      followed = is.followed;
      kept = is.kept;
      all = is.all;
      waits = is.waits;
      opens = is.opens;
      going = going_idle c.args.attempt.now _ _ _ c.args.place c.next_start.result next.forth next.ends
          (no_items f.starts.waiting.items (is.going.even ∙ ap length (c.has_waiting.ensures.none c.if-has_waiting.false))) next.passed is.going;
    }
