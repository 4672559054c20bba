use Rattle.std.proofs.Common.{◌≡◌, [], sym, arith}
use Rattle.fancy_code.specs.Instructions.{Close}
use Rattle.fancy_runner.proofs.ThreadsLemmas.{no_pairs, wrote_alone}
use Rattle.fancy_runner.proofs.threads.Threads.close_group.Goals as goal

pub returns-then-is_empty-2 : goal.returns-then-is_empty-2
returns-then-is_empty-2 c next code is =
    let branches : c.self.inside.branches.items ≡ [] = no_pairs c.self.inside.branches.items _ (omega (arith, c.self.inside.branches.ok.0)) c.if-is_empty.ensures in
    let passed : c.self.inside.passed.items ≡ [] = no_pairs c.self.inside.passed.items _ (omega (arith, c.self.inside.passed.ok.0)) c.if-is_empty-2.ensures in
    rw (sym c.self.view_is)
    (wrote_alone code (Close c.args.group next) c.args.pair.place c.self.inside.slots.items c.end_group.new.slots.items (c.end_group.ensures next)
    c.self.inside.branches.items c.self.inside.passed.items branches passed)
