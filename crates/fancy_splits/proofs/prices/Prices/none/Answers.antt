use Rattle.fancy_splits.proofs.prices.Prices.none.Goals as goal

pub returns : goal.returns
returns c code = record { entries = c.all.ensures code; splits = c.none.ensures code; front = tt }
