use Rattle.std.proofs.Common.{◌++◌, map, drop, sym, subst, arith, List}
use Rattle.fancy_bytes.specs.Sets.{ByteFlags}
use Rattle.fancy_required.specs.Told.{TellsLess}
use Rattle.fancy_required.specs.declared.told.Told.TheVariants.{Among}
use Rattle.fancy_required.proofs.ToldLemmas.{less_same, row_told, set_on}
use Rattle.fancy_required.proofs.told.row_at.Goals as goal

pub loop-i-init : goal.loop-i-init
loop-i-init c =
    subst (λ (row : List ByteFlags). TellsLess (map Among row ++ drop c.args.from c.args.told.now) (drop c.args.from c.args.told.now)) (sym c.new-row.ensures.items)
    (less_same (drop c.args.from c.args.told.now))

pub loop-i-preserved : goal.loop-i-preserved
loop-i-preserved c =
    set_on c.args.told.now c.args.from c.loop-i.i c.index-told-i.result c.in-Some.set c.loop-i.row.items c.push.new.self.items (omega arith) c.index-told-i.is
    c.in-Some.ensures c.in_ok-push.ensures.items c.loop-i.invariant

pub returns : goal.returns
returns c m p h = row_told m p c.args.told.now c.args.from c.loop-i.i c.loop-i.row.items c.loop-i.invariant h
