use Rattle.fancy_search.proofs.program.prices_of.Goals as goal

pub returns-then-easy : goal.returns-then-easy
returns-then-easy c = c.none.ensures c.args.code.now
