use Rattle.std.proofs.Common.{◌∙◌, sym, ap}
use Rattle.std.proofs.lemmas.Option.{IfSome_then}
use Rattle.fancy_code.specs.Code.{instrs_of, instr_in}
use Rattle.fancy_prices.proofs.BehindLemmas.{dies_behind}
use Rattle.fancy_prices.proofs.free.price_behind.Goals as goal

pub returns-in-Look : goal.returns-in-Look
returns-in-Look c =
    IfSome_then c.stops_never_behind.result c.stops_never_behind.ensures
    (λ p never. dies_behind (instrs_of c.args.code.now) c.args.ending c.in-Look.behind p.marks p.returns c.args.code.now.start c.in-Look.body c.in-Look.field-2 c.if-behind.true
    (sym c.instr.ensures.instr ∙ ap (instr_in c.args.code.now) c.in-Look.is) never)
