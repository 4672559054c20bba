use Rattle.std.proofs.Common.{◌-◌, ◌∙◌, subst, [], ◌∷◌, sym, ap, map, append-nil, arith}
use Rattle.std.proofs.lemmas.List.{map-append}
use Rattle.std.proofs.lemmas.Result.{err_from_is_err_and}
use Rattle.fancy_tree.specs.Pattern.{pattern_of}
use Rattle.fancy_syntax.specs.Dialect.{back_to}
use Rattle.fancy_syntax.specs.Grammar.{Place, BranchesReading, Opens, ItemReading, with_quantifier, start}
use Rattle.fancy_syntax.specs.Views.{place, opening_found, patterns_of, part_of, Sequence}
use Rattle.fancy_class.specs.Readings.{IsTheReading}
use Rattle.fancy_syntax.proofs.ParserLemmas.{refused, MemoryOr-weaker, goes_on_then, no_branch, branch_step, alternation_is, item_step_at, no_item_at, sequence_is_at, no_atom, no_opening, no_quantified, single_is, setting_is, no_body, unclosed, no_quantified_group, group_is, no_quantified_reference, reference_is, found_group, not_asked, opened_in, some_room, asked, room_inside, no_condition, unclosed_condition, condition_is}
use Rattle.fancy_syntax.proofs.parser.Parser.+parser.Goals as goal

pub alternatives-returns-in_err-branch-clause-value :
    goal.alternatives-returns-in_err-branch-clause-value
alternatives-returns-in_err-branch-clause-value t c =
    let p = err_from_is_err_and c.from_residual.result c.from_residual.ensures.1 in
    refused patterns_of (BranchesReading c.args.room) c.from_residual.result _ _ p.0 c.in_err-branch.field-0.0 p.1 p.2
    (MemoryOr-weaker c.in_err-branch.field-0.0 (no_branch c.loop-found.invariant.goes_on) c.in_err-branch.ensures.value)

pub alternatives-loop-found-preserved : goal.alternatives-loop-found-preserved
alternatives-loop-found-preserved t c = record {
  goes_on = rw (c.skip.ensures.place, c.in_ok-push.ensures.items, map-append) (goes_on_then c.loop-found.invariant.goes_on (branch_step c.in_ok-branch.ensures.value (sym c.if-not-is_at_any.ensures.value)));
  forward = omega (arith, c.loop-found.invariant.forward, c.in_ok-branch.ensures.forward, c.skip.ensures.shorter);
}

pub alternatives-returns-clause-value : goal.alternatives-returns-clause-value
alternatives-returns-clause-value t c =
    alternation_is {done = map pattern_of c.loop-found.found.items} _ c.loop-found.invariant.goes_on c.in_ok-branch.ensures.value (sym c.if-not-is_at_any.ensures.value)
    (ap (map pattern_of) c.in_ok-push.ensures.items ∙ map-append pattern_of c.loop-found.found.items (c.in_ok-branch.branch ∷ []))

pub item-returns-in_err-part-clause-value : goal.item-returns-in_err-part-clause-value
item-returns-in_err-part-clause-value t c =
    let p = err_from_is_err_and c.from_residual.result c.from_residual.ensures.1 in
    refused part_of (ItemReading c.args.room) c.from_residual.result _ _ p.0 c.in_err-part.field-0.0 p.1 p.2
    (MemoryOr-weaker c.in_err-part.field-0.0 (no_atom (sym c.if-not-is_at_any.ensures.value)) c.in_err-part.ensures.value)

pub item-returns-in_err-with_quantifier-clause-value :
    goal.item-returns-in_err-with_quantifier-clause-value
item-returns-in_err-with_quantifier-clause-value t c =
    let p = err_from_is_err_and c.from_residual-in_err-with_quantifier.result c.from_residual-in_err-with_quantifier.ensures.1 in
    refused part_of (ItemReading c.args.room) c.from_residual-in_err-with_quantifier.result _ _ p.0 c.in_err-with_quantifier.field-0.0 p.1 p.2
    (MemoryOr-weaker c.in_err-with_quantifier.field-0.0 (no_quantified (sym c.if-not-is_at_any.ensures.value) c.in_ok-part.ensures.value) c.in_err-with_quantifier.ensures.value)

pub item-returns-in_err-how-clause-value :
    goal.item-returns-in_err-how-clause-value
item-returns-in_err-how-clause-value t c =
    let p = err_from_is_err_and c.from_residual-in_err-how.result c.from_residual-in_err-how.ensures.1 in
    refused part_of (ItemReading c.args.room) c.from_residual-in_err-how.result _ _ p.0 c.in_err-how.field-0.0 p.1 p.2
    (MemoryOr-weaker c.in_err-how.field-0.0 (no_opening (sym c.if-not-is_at_any.ensures.value)) c.in_err-how.ensures.value)

pub item-returns-then-not-is_at_any-clause-value :
    goal.item-returns-then-not-is_at_any-clause-value
item-returns-then-not-is_at_any-clause-value t c =
    single_is (sym c.if-not-is_at_any.ensures.value) c.in_ok-part.ensures.value c.in_ok-with_quantifier.ensures.value

pub item-returns-in-Setting-clause-value : goal.item-returns-in-Setting-clause-value
item-returns-in-Setting-clause-value t c =
    setting_is (sym c.if-not-is_at_any.ensures.value) (rw c.in-Setting.is at c.in_ok-how.ensures.value)

pub item-returns-in_err-body : goal.item-returns-in_err-body
item-returns-in_err-body t c =
    let p = err_from_is_err_and c.from_residual-in_err-body.result c.from_residual-in_err-body.ensures.1 in
    record {
      value = refused part_of (ItemReading c.args.room) c.from_residual-in_err-body.result _ _ p.0 c.in_err-body.field-0.0 p.1 p.2
          (MemoryOr-weaker c.in_err-body.field-0.0 (no_body (sym c.if-not-is_at_any.ensures.value) c.in_ok-how.ensures.value (found_group _ c.in_default.not-Setting c.in_default-how.not-Reference (not_asked c.in_ok-how.ensures.value.0)) (omega (arith, c.in_ok-how.ensures.room))) c.in_err-body.ensures.value);
      progress = rw p.1 tt;
    }

pub item-returns-then-not-is_at_any-2 : goal.item-returns-then-not-is_at_any-2
item-returns-then-not-is_at_any-2 t c = record {
  value = rw c.error.ensures (unclosed (sym c.if-not-is_at_any.ensures.value) c.in_ok-how.ensures.value (found_group _ c.in_default.not-Setting c.in_default-how.not-Reference (not_asked c.in_ok-how.ensures.value.0)) (omega (arith, c.in_ok-how.ensures.room))
      c.in_ok-body.ensures.value (sym c.if-not-is_at_any-2.ensures.value));
  progress = tt;
}

pub item-returns-in_err-with_quantifier-2 : goal.item-returns-in_err-with_quantifier-2
item-returns-in_err-with_quantifier-2 t c =
    let p = err_from_is_err_and c.from_residual-in_err-with_quantifier-2.result c.from_residual-in_err-with_quantifier-2.ensures.1 in
    record {
      value = refused part_of (ItemReading c.args.room) c.from_residual-in_err-with_quantifier-2.result _ _ p.0 c.in_err-with_quantifier-2.field-0.0 p.1 p.2
          (MemoryOr-weaker c.in_err-with_quantifier-2.field-0.0
          (λ none. no_quantified_reference (sym c.if-not-is_at_any.ensures.value) (rw c.in-Reference.is at c.in_ok-how.ensures.value) (rw c.reference.ensures at none)) c.in_err-with_quantifier-2.ensures.value);
      progress = rw p.1 tt;
    }

pub item-returns-in-Reference : goal.item-returns-in-Reference
item-returns-in-Reference t c = record {
  value = reference_is (sym c.if-not-is_at_any.ensures.value) (rw c.in-Reference.is at c.in_ok-how.ensures.value) (rw c.reference.ensures at c.in_ok-with_quantifier-2.ensures.value);
  progress = omega (arith, c.in_ok-with_quantifier-2.ensures.progress, c.in_ok-how.ensures.progress);
}

pub item-returns-in_err-with_quantifier-3 : goal.item-returns-in_err-with_quantifier-3
item-returns-in_err-with_quantifier-3 t c =
    let p = err_from_is_err_and c.from_residual-in_err-with_quantifier-3.result c.from_residual-in_err-with_quantifier-3.ensures.1 in
    record {
      value = refused part_of (ItemReading c.args.room) c.from_residual-in_err-with_quantifier-3.result _ _ p.0 c.in_err-with_quantifier-3.field-0.0 p.1 p.2
          (MemoryOr-weaker c.in_err-with_quantifier-3.field-0.0
          (λ none. no_quantified_group (sym c.if-not-is_at_any.ensures.value) c.in_ok-how.ensures.value (found_group _ c.in_default.not-Setting c.in_default-how.not-Reference (not_asked c.in_ok-how.ensures.value.0)) (omega (arith, c.in_ok-how.ensures.room))
          c.in_ok-body.ensures.value c.in_ok-group.ensures
          (ap (λ (s : Place). with_quantifier (pattern_of c.in_ok-group.group) (record { text = s.text; scope = back_to (place c.args.self.now).scope s.scope })) (sym c.skip.ensures.place) ∙ none)) c.in_err-with_quantifier-3.ensures.value);
      progress = rw p.1 tt;
    }

pub item-returns : goal.item-returns
item-returns t c = record {
  value = group_is (sym c.if-not-is_at_any.ensures.value) c.in_ok-how.ensures.value (found_group _ c.in_default.not-Setting c.in_default-how.not-Reference (not_asked c.in_ok-how.ensures.value.0)) (omega (arith, c.in_ok-how.ensures.room))
      c.in_ok-body.ensures.value (sym c.if-not-is_at_any-2.ensures.value) c.in_ok-group.ensures
      (ap (λ (s : Place). with_quantifier (pattern_of c.in_ok-group.group) (record { text = s.text; scope = back_to (place c.args.self.now).scope s.scope })) (sym c.skip.ensures.place) ∙ c.in_ok-with_quantifier-3.ensures.value);
  progress = omega (arith, c.in_ok-with_quantifier-3.ensures.progress, c.skip.ensures.shorter, c.in_ok-body.ensures.forward, c.in_ok-how.ensures.progress);
}

pub sequence-loop-self-preserved : goal.sequence-loop-self-preserved
sequence-loop-self-preserved t c = record {
  goes_on = rw append-nil at (goes_on_then c.loop-self.invariant.goes_on (item_step_at c.skip_blanks.ensures.place (sym c.if-ends_branch.ensures) (rw c.in_default.is at c.in_ok-part.ensures.value)));
  forward = omega (arith, c.loop-self.invariant.forward, c.skip_blanks.ensures.shorter, c.in_ok-part.ensures.progress);
}

pub sequence-loop-self-preserved-in-Continue-branch-3 : goal.sequence-loop-self-preserved-in-Continue-branch-3
sequence-loop-self-preserved-in-Continue-branch-3 t c = record {
  goes_on = rw (c.in_ok-push.ensures.items, map-append) (goes_on_then c.loop-self.invariant.goes_on (item_step_at c.skip_blanks.ensures.place (sym c.if-ends_branch.ensures) (rw c.in-Some.is at c.in_ok-part.ensures.value)));
  forward = omega (arith, c.loop-self.invariant.forward, c.skip_blanks.ensures.shorter, c.in_ok-part.ensures.progress);
}

pub sequence-returns-clause-value : goal.sequence-returns-clause-value
sequence-returns-clause-value t c =
    sequence_is_at (pattern_of c.sequence.result) c.loop-self.invariant.goes_on c.skip_blanks.ensures.place (sym c.if-ends_branch.ensures) c.sequence.ensures

pub sequence-returns-in_err-part-clause-value :
    goal.sequence-returns-in_err-part-clause-value
sequence-returns-in_err-part-clause-value t c =
    let p = err_from_is_err_and c.from_residual.result c.from_residual.ensures.1 in
    refused pattern_of (Sequence c.args.room) c.from_residual.result _ _ p.0 c.in_err-part.field-0.0 p.1 p.2
    (MemoryOr-weaker c.in_err-part.field-0.0 (no_item_at c.loop-self.invariant.goes_on c.skip_blanks.ensures.place (sym c.if-ends_branch.ensures)) c.in_err-part.ensures.value)

pub head-returns-then-not-asks-clause-value : goal.head-returns-then-not-asks-clause-value
head-returns-then-not-asks-clause-value t c =
    let v = c.in_ok-how.ensures.value in
    opened_in (c.args.room - 1) (omega (arith, some_room (opening_found c.in_ok-how.how) v.1)) v.0 (sym c.if-not-asks.ensures) v.1

pub head-returns-in_err-condition-clause-value : goal.head-returns-in_err-condition-clause-value
head-returns-in_err-condition-clause-value t c =
    let v = c.in_ok-how.ensures.value in
    let p = err_from_is_err_and c.from_residual-in_err-condition.result c.from_residual-in_err-condition.ensures.1 in
    refused opening_found (Opens c.args.room) c.from_residual-in_err-condition.result _ _ p.0 c.in_err-condition.field-0.0 p.1 p.2
    (MemoryOr-weaker c.in_err-condition.field-0.0 (no_condition (asked (place c.args.self.now) v.0 (sym c.if-not-asks.ensures)) (room_inside (opening_found c.in_ok-how.how) (sym c.if-not-asks.ensures) v.1)) c.in_err-condition.ensures.value)

pub head-returns-then-not-is_at_any-clause-value : goal.head-returns-then-not-is_at_any-clause-value
head-returns-then-not-is_at_any-clause-value t c =
    let v = c.in_ok-how.ensures.value in
    rw c.error.ensures
    (unclosed_condition (asked (place c.args.self.now) v.0 (sym c.if-not-asks.ensures)) (room_inside (opening_found c.in_ok-how.how) (sym c.if-not-asks.ensures) v.1) c.in_ok-condition.ensures.value (sym c.if-not-is_at_any.ensures.value))

pub head-returns-clause-value : goal.head-returns-clause-value
head-returns-clause-value t c =
    let v = c.in_ok-how.ensures.value in
    subst (λ z. IsTheReading (Opens c.args.room) (place c.args.self.now) (opening_found c.in_ok-chooses.field-0) z)
    (ap (λ (s : Place). start (back_to (place c.args.self.now).scope s.scope) s.text) (sym c.skip.ensures.place))
    (condition_is (asked (place c.args.self.now) v.0 (sym c.if-not-asks.ensures)) (room_inside (opening_found c.in_ok-how.how) (sym c.if-not-asks.ensures) v.1) c.in_ok-condition.ensures.value (sym c.if-not-is_at_any.ensures.value) c.in_ok-chooses.ensures)
