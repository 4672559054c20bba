use Rattle.fancy_code.specs.Code.{instrs_of}
use Rattle.fancy_code.proofs.BranchingLemmas.{branches_told}
use Rattle.fancy_code.proofs.branching.branches_of.Goals as goal

pub returns-clause-are : goal.returns-clause-are
returns-clause-are c =
    branches_told (record { lead = c.lead_of-lead.result; heads = c.in_ok-heads.heads; texts = c.in_ok-texts.texts; table = c.in-Some.table }) (instrs_of c.args.code.now) c.args.code.now.meaning c.args.code.now.start c.in_ok-rows.rows.items
    c.lead_of-lead.ensures c.in_ok-heads.ensures (rw c.deref-2.ensures.value at c.in_ok-rows.ensures) (rw (c.in-Some.is, c.deref-3.ensures.value) at c.in_ok-table.ensures.tells)
    (rw c.deref-4.ensures.value at c.in_ok-texts.ensures)
