use Rattle.std.proofs.Common.{drop, ◌+◌, arith}
use Rattle.std.specs.Prelude.{reverse}
use Rattle.fancy_code.specs.Code.{instrs_of}
use Rattle.fancy_runner.proofs.SavedLemmas.{next_left, branch_out}
use Rattle.fancy_runner.proofs.backlog.Backlog.oldest.Goals as goal

pub returns-then-self-len : goal.returns-then-self-len
returns-then-self-len c =
    let saved = c.args.self.now.saved in
    let branches = saved.branches.items in
    branch_out (instrs_of c.args.code.now) c.args.self.now.current (drop c.args.self.now.begun branches) (drop (c.args.self.now.begun + 1) branches)
    (reverse (drop c.args.self.now.gone saved.passed.items)) c.index-branch.result.now saved.slots.items
    (next_left branches c.args.self.now.begun c.index-branch.result.now (omega (arith, saved.branches.ok.0)) c.index-branch.ensures)
