use Rattle.std.proofs.Common.{refl}
use Rattle.fancy_code.specs.Code.{instrs_of}
use Rattle.fancy_prices.specs.declared.facts.Before.TheVariants.{Among}
use Rattle.fancy_splits.proofs.DenialLemmas.{byte_of, finds_of, misses_of}
use Rattle.fancy_splits.proofs.denials.sight_behind.Goals as goal

pub returns-in-Some : goal.returns-in-Some
returns-in-Some c b lt is =
    misses_of (instrs_of c.args.code.now) c.args.code.now.meaning (Among c.args.kind) c.args.body b (b, refl, byte_of c.args.kind.now.bytes b lt is)
    c.in-Some.price.marks c.in-Some.price.returns c.in-Some.ensures

pub returns-then-finds_behind : goal.returns-then-finds_behind
returns-then-finds_behind c b lt is =
    finds_of (instrs_of c.args.code.now) c.args.code.now.meaning (Among c.args.kind) c.args.body b (b, refl, byte_of c.args.kind.now.bytes b lt is)
    (c.finds_behind.ensures c.if-finds_behind.true)
