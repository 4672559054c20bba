use Rattle.std.proofs.Common.{◌+◌, drop, sym, ◌∙◌, arith}
use Rattle.fancy_code.specs.Code.{instrs_of}
use Rattle.fancy_runner.proofs.SavedLemmas.{next_left, passed_over, way_out}
use Rattle.fancy_runner.proofs.backlog.Backlog.next_way.Goals as goal

pub returns-in-Some-clause-took : goal.returns-in-Some-clause-took
returns-in-Some-clause-took c =
    let saved = c.passed.self.saved in
    let gone = c.passed.self.gone in
    let passed = saved.passed.items in
    let pair = c.index-pair.result.now in
    c.passed.invariant.threads
    ∙ way_out (instrs_of c.args.code.now) c.passed.self.current (drop c.passed.self.begun saved.branches.items) (drop gone passed) (drop (gone + 1) passed) pair c.in-Some.way saved.slots.items
    c.passed.invariant.branches (next_left passed gone pair (omega (arith, saved.passed.ok.0)) c.index-pair.ensures) (sym c.way_from.ensures ∙ c.in-Some.is)

pub passed-preserved : goal.passed-preserved
passed-preserved c =
    let saved = c.passed.self.saved in
    let gone = c.passed.self.gone in
    let passed = saved.passed.items in
    let pair = c.index-pair.result.now in
    record {
      threads = c.passed.invariant.threads
          ∙ passed_over (instrs_of c.args.code.now) c.passed.self.current (drop c.passed.self.begun saved.branches.items) (drop gone passed) (drop (gone + 1) passed) pair saved.slots.items c.write_group.new.slots.items
          c.passed.invariant.branches (next_left passed gone pair (omega (arith, saved.passed.ok.0)) c.index-pair.ensures) (sym c.way_from.ensures ∙ c.in_default.is) c.write_group.ensures;
      current = c.passed.invariant.current;
      branches = c.passed.invariant.branches;
    }
