use Rattle.std.proofs.Common.{◌≡◌, ℕ, List, length, replicate, sym, ap, ◌∙◌, subst, arith}
use Rattle.std.proofs.lemmas.List.{length-map}
use Rattle.fancy_code.specs.Instructions.{with_set, with_sets}
use Rattle.fancy_code.specs.Marking.{IsPaid}
use Rattle.fancy_code.proofs.MarkingLemmas.{all_paid, all_numbered, none_past}
use Rattle.fancy_code.proofs.marking.Marking.of_all.Goals as goal

pub invariant_of-result : goal.invariant_of-result
invariant_of-result c =
    let numbers = c.in_ok-numbers.numbers.items in
    record {
      numbered = all_numbered (length c.args.instrs.now) numbers (λ q lt. c.in_ok-numbers.ensures.each q lt)
          (λ q ge. none_past numbers q (omega (arith, ge, c.in_ok-numbers.ensures.many, c.in_ok-numbers.numbers.ok.0)));
    }

pub returns-clause-paid : goal.returns-clause-paid
returns-clause-paid c sets start =
    let numbers = c.in_ok-numbers.numbers.items in
    let count : length (with_sets sets c.args.instrs.now) ≡ length c.args.instrs.now = length-map c.args.instrs.now (with_set sets) in
    subst (λ (ws : List ℕ). IsPaid (with_sets sets c.args.instrs.now) numbers ws start) (sym (c.in_ok-weights.ensures ∙ ap (λ (n : ℕ). replicate n 1) (sym count)))
    (all_paid (with_sets sets c.args.instrs.now) numbers (λ q lt. c.in_ok-numbers.ensures.each q (omega (arith, lt, count)))
    (λ q ge. none_past numbers q (omega (arith, ge, count, c.in_ok-numbers.ensures.many, c.in_ok-numbers.numbers.ok.0))) start)
