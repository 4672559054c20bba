use Rattle.std.proofs.Common.{[]}
use Rattle.fancy_automaton.proofs.sole.Sole.new.Goals as goal

pub returns-clause-sole : goal.returns-clause-sole
returns-clause-sole c = (
  [],
  record {
    followed = c.requires.followed;
    kept = c.requires.kept.bounded;
    all = c.requires.kept.all;
    waits = c.requires.rows.waits;
    opens = c.requires.rows.opens;
    going = c.requires.going;
    begins = c.row_start.ensures;
    good = c.requires.good;
    within = c.requires.within;
  },
)
