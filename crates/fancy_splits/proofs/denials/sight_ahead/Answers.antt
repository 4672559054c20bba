use Rattle.fancy_code.specs.Code.{instrs_of}
use Rattle.fancy_splits.proofs.DenialLemmas.{finds_ahead, misses_ahead}
use Rattle.fancy_splits.proofs.denials.sight_ahead.Goals as goal

pub returns-in-Some-stop_at : goal.returns-in-Some-stop_at
returns-in-Some-stop_at c =
    finds_ahead (instrs_of c.args.code.now) c.args.code.now.meaning c.args.here c.args.body c.in-Some-past_byte.last c.in-Some-stop_at.field-0 c.in-Some-past_byte.ensures c.in-Some-stop_at.ensures

pub returns-in-Some : goal.returns-in-Some
returns-in-Some c =
    misses_ahead (instrs_of c.args.code.now) c.args.code.now.meaning c.args.here c.in-Some.price.marks c.in-Some.price.returns c.args.body c.in-Some.ensures
