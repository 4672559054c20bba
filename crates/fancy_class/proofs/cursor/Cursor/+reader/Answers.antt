use Rattle.std.proofs.Common.{arith, refl, sym, ap, ◌∙◌, Some}
use mathlib.Core.Path.{fun_ext}
use Rattle.std.proofs.lemmas.Result.{err_from_is_err_and}
use Rattle.fancy_tree.specs.Members.{members}
use Rattle.fancy_tree.specs.Text.{Text}
use Rattle.fancy_class.specs.ClassGrammar.{none_of, negate_if}
use Rattle.fancy_class.specs.ClassReading.{ClassReading, OperandItemsReading}
use Rattle.fancy_class.proofs.ClassSteps.{first_operand, refused, RefusesClass-weaker, goes_on_then, items_step, items_done, no_item, operands_step, simple_is, no_class_item, nested_is, no_nested, no_operand, unclosed, class_is}
use Rattle.fancy_class.proofs.cursor.Cursor.+reader.Goals as goal

pub bracketed_class-returns-in_err-right-clause-value : goal.bracketed_class-returns-in_err-right-clause-value
bracketed_class-returns-in_err-right-clause-value t c =
    let p = err_from_is_err_and c.from_residual-in_err-right.result c.from_residual-in_err-right.ensures.1 in
    let op = c.in-Some.ensures.value ∙ ap (λ (u : Text). Some (c.in-Some.how, u)) (sym c.skip.ensures.place) in
    refused members (ClassReading c.args.context.meaning c.args.context.fold c.args.room) c.from_residual-in_err-right.result _ _ p.0 c.in_err-right.field-0.0 p.1 p.2
    (RefusesClass-weaker c.in_err-right.field-0.0
    (no_operand c.requires c.opening-negated.ensures.value (sym c.if-not-may_negate.ensures) (omega arith) (first_operand c.in_ok-first.ensures.value c.new-chain.ensures) c.operands.invariant.goes_on op) c.in_err-right.ensures.value)

pub bracketed_class-operands-preserved : goal.bracketed_class-operands-preserved
bracketed_class-operands-preserved t c =
    let op = c.in-Some.ensures.value ∙ ap (λ (u : Text). Some (c.in-Some.how, u)) (sym c.skip.ensures.place) in
    record {
      goes_on = goes_on_then c.operands.invariant.goes_on (operands_step op c.in_ok-right.ensures.value (fun_ext c.in_ok-add.ensures));
      forward = omega (arith, c.operands.invariant.forward, c.in_ok-right.ensures.forward, c.skip.ensures.len);
    }

pub bracketed_class-returns-then-not-is_at_any-clause-value : goal.bracketed_class-returns-then-not-is_at_any-clause-value
bracketed_class-returns-then-not-is_at_any-clause-value t c =
    unclosed c.requires c.opening-negated.ensures.value (sym c.if-not-may_negate.ensures) (omega arith) (first_operand c.in_ok-first.ensures.value c.new-chain.ensures) c.operands.invariant.goes_on c.in_default.ensures.value (sym c.if-not-is_at_any.ensures.value)

pub bracketed_class-returns-clause-value : goal.bracketed_class-returns-clause-value
bracketed_class-returns-clause-value t c =
    rw c.skip-2.ensures.place (class_is c.requires c.opening-negated.ensures.value (sym c.if-not-may_negate.ensures) (omega arith) (first_operand c.in_ok-first.ensures.value c.new-chain.ensures) c.operands.invariant.goes_on c.in_default.ensures.value (sym c.if-not-is_at_any.ensures.value) (fun_ext (λ x. c.in_ok-negate_if.ensures x ∙ ap (λ f. negate_if c.args.context.meaning c.opening-negated.result f x) (fun_ext c.in_ok-set.ensures))))

pub items-returns-in_err-nested-clause-value : goal.items-returns-in_err-nested-clause-value
items-returns-in_err-nested-clause-value t c =
    let p = err_from_is_err_and c.from_residual.result c.from_residual.ensures.1 in
    refused members (λ u f v. OperandItemsReading c.args.context.meaning c.args.context.fold c.args.room c.args.first none_of u f v) c.from_residual.result _ _ p.0 c.in_err-nested.field-0.0 p.1 p.2
    (RefusesClass-weaker c.in_err-nested.field-0.0 (λ nothing. no_item c.more.invariant.goes_on (sym c.more-test.ensures) (no_nested (sym c.if-starts_class.ensures.value) nothing)) c.in_err-nested.ensures.value)

pub items-returns-in_err-item-clause-value : goal.items-returns-in_err-item-clause-value
items-returns-in_err-item-clause-value t c =
    let p = err_from_is_err_and c.from_residual-in_err-item.result c.from_residual-in_err-item.ensures.1 in
    refused members (λ u f v. OperandItemsReading c.args.context.meaning c.args.context.fold c.args.room c.args.first none_of u f v) c.from_residual-in_err-item.result _ _ p.0 c.in_err-item.field-0.0 p.1 p.2
    (RefusesClass-weaker c.in_err-item.field-0.0 (λ nothing. no_item c.more.invariant.goes_on (sym c.more-test.ensures) (no_class_item (sym c.if-starts_class.ensures.value) nothing)) c.in_err-item.ensures.value)

pub items-more-preserved-in_ok-add_class : goal.items-more-preserved-in_ok-add_class
items-more-preserved-in_ok-add_class t c = record {
  goes_on = goes_on_then c.more.invariant.goes_on (items_step (sym c.more-test.ensures) (nested_is (sym c.if-starts_class.ensures.value) c.in_ok-nested.ensures.value) (fun_ext (c.in_ok-add_class.ensures c.args.context)));
  forward = omega (arith, c.more.invariant.forward, c.in_ok-nested.ensures.progress);
}

pub items-more-preserved : goal.items-more-preserved
items-more-preserved t c = record {
  goes_on = goes_on_then c.more.invariant.goes_on (items_step (sym c.more-test.ensures) (simple_is (sym c.if-starts_class.ensures.value) c.in_ok-item.ensures.value refl) (fun_ext (c.in_ok-add_item.ensures c.args.context)));
  forward = omega (arith, c.more.invariant.forward, c.in_ok-item.ensures.progress);
}

pub items-returns-clause-value : goal.items-returns-clause-value
items-returns-clause-value t c = items_done c.more.invariant.goes_on (sym c.more-test.ensures) (fun_ext c.in_ok-build.ensures)
