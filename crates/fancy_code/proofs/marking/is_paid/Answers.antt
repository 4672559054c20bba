use Rattle.std.proofs.Common.{rules, arith, ◌≡◌, ◌<◌, length}
use Rattle.std.specs.Prelude.{slice_index_or}
use Rattle.fancy_code.specs.Marking.{worth_in}
use Rattle.fancy_code.proofs.SumLemmas.{sum_more}
use Rattle.fancy_code.proofs.MarkingLemmas.{pays_more, paid_by}
use Rattle.fancy_code.proofs.marking.is_paid.Goals as goal

pub loop-at-preserved : goal.loop-at-preserved
loop-at-preserved c =
    let within : c.loop-at.at < length c.args.instrs.now = search rules in
    let weighs : c.in-Some-get.weight.now ≡ slice_index_or c.args.weights.now c.loop-at.at 0 = search rules in
    record {
      pays = λ sets.
          pays_more c.args.numbers.now c.args.weights.now sets c.args.instrs.now c.loop-at.at c.in-Some.cost c.in-Some-get.weight.now within (c.in-Some.ensures sets) weighs (omega (arith, c.if-cost-weight.false)) (c.loop-at.invariant.pays sets);
      total = omega (arith, c.in-Some-checked_add.ensures, c.worth.ensures, c.loop-at.invariant.total, sum_more (worth_in c.args.numbers.now c.args.weights.now) c.loop-at.at);
    }

pub returns-in-Some-checked_add-2-clause-paid : goal.returns-in-Some-checked_add-2-clause-paid
returns-in-Some-checked_add-2-clause-paid c sets fits =
    paid_by c.args.numbers.now c.args.weights.now sets c.args.instrs.now c.args.start c.loop-at.at c.loop-at.total c.in-Some-checked_add-2.all (search rules) (c.loop-at.invariant.pays sets) c.loop-at.invariant.total
    (omega (arith, c.in-Some-checked_add-2.ensures, c.due.ensures)) (search rules)
