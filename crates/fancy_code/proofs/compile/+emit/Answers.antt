use Rattle.std.proofs.Common.{rules, ◌≡◌, ◌+◌, ◌-◌, ◌*◌, ◌<◌, true≢false, List, length, map, sum_by, vec_len, None, Some, refl, sym, ap, ◌∙◌, arith, subst}
use Rattle.std.proofs.lemmas.Result.{IfOk-weaker}
use Rattle.std.specs.Prelude.{slice_set}
use Rattle.std.proofs.Math.Seq.{drop-length}
use Rattle.fancy_tree.specs.declared.tree.Tree.{Tree, the_lemmas}
use Rattle.fancy_tree.specs.Pattern.{Pattern, member_of, pattern_of, in_sequence, in_choice}
use Rattle.fancy_tree.specs.Sizes.{nodes}
use Rattle.fancy_tree.proofs.PatternLemmas.{pattern-Concat, pattern-Conditional, pattern-Character, pattern-RawByte, pattern-Assertion, pattern-GroupTest, pattern-KeepStart, pattern-ContinueHere}
use Rattle.fancy_tree.proofs.SizeLemmas.{nodes-in_sequence}
use Rattle.fancy_tree.proofs.FittingLemmas.{exact_size}
use Rattle.fancy_tree.proofs.PartLemmas.{parts_from, branches_from, last_part, no_parts, some_parts}
use Rattle.fancy_code.specs.Emitted.{Appends, Emits, emitted, len_of}
use Rattle.fancy_code.specs.Compile.{Emitted, BehindEmitted, Means, is_easy_instr}
use Rattle.fancy_meaning.specs.Easy.{is_easy}
use Rattle.fancy_code.proofs.CodeLemmas.{keeps_on, keeps_same}
use Rattle.fancy_code.proofs.CompileLemmas.{sizes_from, sequence_emitted, last_emits, choice_emits, group_emits, copies_emitted, optionals_emitted, repeat_emits, shared_emits, both_emit, atomic_emits, possessive_emits, ahead_emits, behind_emits, framed, framed_grows, empty_emits, condition_emitted, star_emitted, star_kept, back_emitted, nowhere_emitted, only_part, sequence_behind, last_behind, behind_choice_emitted, few_in_parts, few_in_branches, few_at, few_in_branch, nodes-conditional, branch_sizes, last_size}
use Rattle.fancy_code.proofs.ClassifyLemmas.{easy_split, easy_written, easy-in_sequence, easy_at}
use Rattle.fancy_code.proofs.compile.+emit.Goals as goal
use Rattle.fancy_code.proofs.compile.+emit.Goals.{emit_repeat-in-None+in_ok-rest-in-None, emit_repeat-in-Some+in_ok-rest-in-Some}

pub emit-emit_sequence-requires : goal.emit-emit_sequence-requires
emit-emit_sequence-requires t c = (
  search (rules, the_lemmas),
  rw c.deref-in-Concat.ensures.value (few_in_parts _ _ c.in-Concat.is c.requires.small),
)

pub emit-emit_choice-requires : goal.emit-emit_choice-requires
emit-emit_choice-requires t c = (
  search (rules, the_lemmas),
  rw c.deref-in-Alternation.ensures.value (few_in_branches _ _ c.in-Alternation.is c.requires.small),
)

pub emit_choice-returns-then-is_empty : goal.emit_choice-returns-then-is_empty
emit_choice-returns-then-is_empty t c =
    subst (λ (p : Pattern). Emits c.args.meaning p c.args.code.now c.put_member.new.self c.args.next c.in_ok-nothing.nothing)
    (ap member_of c.empty-set.ensures.edges ∙ sym (ap in_choice (no_parts c.args.branches.now c.if-is_empty.ensures)))
    c.in_ok-nothing.ensures

pub emit_choice-emit-requires : goal.emit_choice-emit-requires
emit_choice-emit-requires t c = (
  search (rules, the_lemmas),
  few_in_branch c.args.branches.now (length c.args.branches.now - 1) c.index-branches-last.result c.requires.small (omega (arith, some_parts (length c.args.branches.now) c.if-is_empty.ensures)) c.index-branches-last.is,
)

pub emit_choice-loop-i-init : goal.emit_choice-loop-i-init
emit_choice-loop-i-init t c =
    let some = some_parts (length c.args.branches.now) c.if-is_empty.ensures in
    record {
      emits = subst (λ (p : Pattern). Emits c.args.meaning p c.args.code.now c.emit.new.code c.args.next c.in_ok-entry.entry)
          (sym (ap in_choice (last_part c.args.branches.now c.index-branches-last.result some c.index-branches-last.is))) (last_emits _ _ _ _ _ _ c.in_ok-entry.ensures);
      within = omega (arith, some);
    }

pub emit_choice-emit-requires-in-loop-i : goal.emit_choice-emit-requires-in-loop-i
emit_choice-emit-requires-in-loop-i t c = (
  search (rules, the_lemmas),
  few_in_branch c.args.branches.now (c.loop-i.i - 1) c.index-branches-i.result c.requires.small (omega (arith, c.loop-i.invariant.within)) c.index-branches-i.is,
)

pub emit_choice-loop-i-preserved : goal.emit_choice-loop-i-preserved
emit_choice-loop-i-preserved t c = record {
  emits = subst (λ (p : Pattern). Emits c.args.meaning p c.args.code.now c.put_both.new.self c.args.next c.in_ok-entry-2.entry)
      (sym (branches_from c.args.branches.now c.loop-i.i (c.loop-i.i - 1) c.index-branches-i.result (omega (arith, c.loop-i-test.true)) c.loop-i.invariant.within c.index-branches-i.is))
      (choice_emits _ _ _ _ _ _ _ _ _ _ _ c.loop-i.invariant.emits c.in_ok-first.ensures c.in_ok-entry-2.ensures);
  within = omega (arith, c.loop-i.invariant.within);
}

pub emit_copies-loop-copy-preserved : goal.emit_copies-loop-copy-preserved
emit_copies-loop-copy-preserved t c = record {
  easy = λ easy h. c.in_ok-entry.ensures.easy easy (c.loop-copy.invariant.easy easy h);
  grows = (
    keeps_on _ _ _ c.loop-copy.invariant.grows.0 c.in_ok-entry.ensures.grows.0,
    omega (arith, c.loop-copy.invariant.grows.1, c.in_ok-entry.ensures.grows.1),
    omega (arith, c.loop-copy.invariant.grows.2, c.in_ok-entry.ensures.grows.2),
  );
  means = copies_emitted c.args.meaning (pattern_of c.args.body.now) c.loop-copy.copy (len_of c.args.code.now) (len_of c.loop-copy.code) (emitted c.loop-copy.code) (emitted c.emit.new.code) c.args.next c.loop-copy.entry c.in_ok-entry.entry
      c.loop-copy.invariant.means c.in_ok-entry.ensures.grows.0 c.loop-copy.invariant.grows.1 c.in_ok-entry.ensures.means;
}

pub emit_optionals-loop-copy-preserved : goal.emit_optionals-loop-copy-preserved
emit_optionals-loop-copy-preserved t c = record {
  easy = λ easy h. c.in_ok-entry.ensures.easy (ap is_easy_instr (c.split.ensures.instr _) ∙ easy_split c.args.greedy _ _) (ap is_easy_instr (c.split-in-loop-copy.ensures.instr _) ∙ easy_split c.args.greedy _ _)
      (c.in_ok-turn.ensures.easy easy (c.loop-copy.invariant.easy easy h));
  grows = (
    keeps_on _ _ _ c.loop-copy.invariant.grows.0 (keeps_on _ _ _ c.in_ok-turn.ensures.grows.0 c.in_ok-entry.ensures.kept),
    omega (arith, c.loop-copy.invariant.grows.1, c.in_ok-turn.ensures.grows.1, c.in_ok-entry.ensures.length),
    omega (arith, c.loop-copy.invariant.grows.2, c.in_ok-turn.ensures.grows.2, c.in_ok-entry.ensures.length),
  );
  means = optionals_emitted c.args.meaning c.args.greedy (pattern_of c.args.body.now) c.loop-copy.copy (len_of c.args.code.now) (len_of c.loop-copy.code) (emitted c.loop-copy.code) (emitted c.emit.new.code) (emitted c.put_both.new.self) c.args.next c.loop-copy.entry c.in_ok-turn.turn c.in_ok-entry.entry c.loop-copy.invariant.means
      c.in_ok-turn.ensures.grows.0 c.loop-copy.invariant.grows.1 c.in_ok-turn.ensures.means c.in_ok-entry.ensures.kept (c.in_ok-entry.ensures.stands.0 ∙ ap Some (c.split.ensures.instr _), c.in_ok-entry.ensures.stands.1 ∙ ap Some (c.split-in-loop-copy.ensures.instr _))
      (omega (arith, c.loop-copy.invariant.grows.1, c.in_ok-turn.ensures.grows.1, c.in_ok-entry.ensures.moved_at))
      (omega (arith, c.loop-copy.invariant.grows.1, c.in_ok-turn.ensures.grows.1, c.in_ok-entry.ensures.still_at));
}

pub emit_repeat-returns : goal.emit_repeat-returns
unfolding nodes
emit_repeat-returns t c =
    elim c.match-turns.branch [
      | emit_repeat-in-None+in_ok-rest-in-None w ↦ rw w.in-None.is
          (repeat_emits c.args.meaning c.args.greedy c.args.turns.low None (pattern_of c.args.body.now) _ c.args.code.now w.emit_star.new.code c.emit_copies.new.code c.args.next w.in_ok-rest-in-None.rest _
          w.in_ok-rest-in-None.ensures.means w.in_ok-rest-in-None.ensures.grows w.in_ok-rest-in-None.ensures.easy
          (rw (w.code-is, w.rest-is) at c.in_ok-entry.ensures.means) (rw w.code-is at c.in_ok-entry.ensures.grows) (rw w.code-is at c.in_ok-entry.ensures.easy) (omega arith))
      | emit_repeat-in-Some+in_ok-rest-in-Some w ↦ rw w.in-Some.is
          (repeat_emits c.args.meaning c.args.greedy c.args.turns.low (Some w.in-Some.high) (pattern_of c.args.body.now) _ c.args.code.now w.emit_optionals.new.code c.emit_copies.new.code c.args.next w.in_ok-rest-in-Some.rest _
          (rw w.saturating_sub.ensures at w.in_ok-rest-in-Some.ensures.means) (rw w.saturating_sub.ensures at w.in_ok-rest-in-Some.ensures.grows) w.in_ok-rest-in-Some.ensures.easy
          (rw (w.code-is, w.rest-is) at c.in_ok-entry.ensures.means) (rw w.code-is at c.in_ok-entry.ensures.grows) (rw w.code-is at c.in_ok-entry.ensures.easy) (omega arith))
    ]

pub emit_sequence-loop-i-init : goal.emit_sequence-loop-i-init
emit_sequence-loop-i-init t c =
    let none = ap (map pattern_of) (drop-length c.args.parts.now) in
    record {
      easy = λ all h. h;
      grows = (
        keeps_same (emitted c.args.code.now),
        omega arith,
        omega arith,
      );
      means = subst (λ (ps : List Pattern). Emitted c.args.meaning (in_sequence ps) (len_of c.args.code.now) (emitted c.args.code.now) c.args.next c.args.next) (sym none) (λ later x. refl);
    }

pub emit_sequence-returns : goal.emit_sequence-returns
emit_sequence-returns t c =
    let grows : Appends (4 * sum_by nodes (map pattern_of c.args.parts.now)) c.args.code.now c.loop-i.code = search rules in
    record {
      means = search rules;
      grows = (grows.0, grows.1, omega (arith, nodes-in_sequence (map pattern_of c.args.parts.now), grows.2));
      easy = λ is. c.loop-i.invariant.easy (easy-in_sequence _ is);
    }

pub emit_sequence-emit-requires : goal.emit_sequence-emit-requires
emit_sequence-emit-requires t c = (
  search (rules, the_lemmas),
  few_at c.args.parts.now (c.loop-i.i - 1) c.index-parts-i.result c.requires.small (omega (arith, c.loop-i.auto.i, c.loop-i-test.true)) c.index-parts-i.is,
)

pub emit_sequence-loop-i-preserved : goal.emit_sequence-loop-i-preserved
emit_sequence-loop-i-preserved t c =
    let within : c.loop-i.i - 1 < length c.args.parts.now = omega (arith, c.loop-i.auto.i, c.loop-i-test.true) in
    let next : c.loop-i.i - 1 + 1 ≡ c.loop-i.i = omega (arith, c.loop-i-test.true) in
    record {
      easy = λ all h. c.in_ok-entry.ensures.easy (easy_at _ _ _ all within c.index-parts-i.is) (c.loop-i.invariant.easy all h);
      grows = (
        keeps_on _ _ _ c.loop-i.invariant.grows.0 c.in_ok-entry.ensures.grows.0,
        omega (arith, c.loop-i.invariant.grows.1, c.in_ok-entry.ensures.grows.1),
        omega (arith, sizes_from c.args.parts.now c.loop-i.i (c.loop-i.i - 1) c.index-parts-i.result next within c.index-parts-i.is, c.loop-i.invariant.grows.2, c.in_ok-entry.ensures.grows.2),
      );
      means = sequence_emitted c.args.meaning (pattern_of c.index-parts-i.result) _ _ (parts_from c.args.parts.now c.loop-i.i (c.loop-i.i - 1) c.index-parts-i.result next within c.index-parts-i.is) _ (len_of c.loop-i.code) _ _ _
          c.loop-i.entry _ c.loop-i.invariant.means c.in_ok-entry.ensures.grows.0 c.loop-i.invariant.grows.1 c.in_ok-entry.ensures.means;
    }

pub emit_star-returns-clause-easy : goal.emit_star-returns-clause-easy
emit_star-returns-clause-easy t c = λ easy h.
    c.in_ok-still.ensures.puts.easy (ap is_easy_instr (c.split-2.ensures.instr _) ∙ easy_split c.args.greedy _ _)
    (easy_written (emitted c.emit.new.code) _ _ _ (c.write.ensures.items ∙ ap (slice_set (emitted c.emit.new.code) c.in_ok-moved.moved) (c.split.ensures.instr _)) (easy_split c.args.greedy _ _) (c.in_ok-turn.ensures.easy easy (c.in_ok-moved.ensures.puts.easy refl h)))

pub emit_star-returns-clause-grows : goal.emit_star-returns-clause-grows
emit_star-returns-clause-grows t c = (
  star_kept (emitted c.args.code.now) (emitted c.put.new.self) (emitted c.emit.new.code) (emitted c.write.new.self) (emitted c.put-2.new.self) c.in_ok-moved.moved _
      c.in_ok-moved.ensures.puts.kept c.in_ok-turn.ensures.grows.0 c.write.ensures.items (omega (arith, c.in_ok-moved.ensures.puts.at)) c.in_ok-still.ensures.puts.kept,
  search rules,
  search rules,
)

pub emit_star-returns-clause-means : goal.emit_star-returns-clause-means
emit_star-returns-clause-means t c =
    star_emitted c.args.meaning c.args.greedy (pattern_of c.args.body.now) (len_of c.args.code.now) (len_of c.put.new.self) c.in_ok-moved.moved c.in_ok-still.still (emitted c.emit.new.code) (emitted c.write.new.self) (emitted c.put-2.new.self)
    c.args.next c.in_ok-turn.turn (omega (arith, c.in_ok-moved.ensures.puts.at, c.in_ok-moved.ensures.puts.length)) c.in_ok-turn.ensures.means
    (c.write.ensures.items ∙ ap (slice_set (emitted c.emit.new.code) c.in_ok-moved.moved) (c.split.ensures.instr _)) (omega (arith, c.in_ok-moved.ensures.puts.at, c.in_ok-moved.ensures.puts.length, c.in_ok-turn.ensures.grows.1))
    c.in_ok-still.ensures.puts.kept (c.in_ok-still.ensures.puts.stands ∙ ap Some (c.split-2.ensures.instr _))
    (omega (arith, c.in_ok-moved.ensures.puts.at))
    (omega (arith, c.in_ok-moved.ensures.puts.length, c.in_ok-turn.ensures.grows.1, c.write.ensures.length, c.in_ok-still.ensures.puts.at))

pub emit_condition-returns-clause-means : goal.emit_condition-returns-clause-means
emit_condition-returns-clause-means t c later x =
    let close = c.in_ok-close.close in
    let inner = c.in_ok-inner.inner in
    let all = framed (λ later. Means c.args.meaning (pattern_of c.args.condition.now) later close inner) (4 * nodes (pattern_of c.args.condition.now)) _ _ _ _ _ _ _ _ _ _
    c.in_ok-close.ensures c.in_ok-inner.ensures.grows c.in_ok-inner.ensures.means c.in_ok-entry.ensures later x in
    (close, inner, all.0, all.1, all.2)

pub emit_backward_choice-loop-i-init : goal.emit_backward_choice-loop-i-init
emit_backward_choice-loop-i-init t c =
    let only = ap in_choice (last_part c.args.branches.now c.index-branches-last.result c.requires.some c.index-branches-last.is) in
    record {
      grows = (
        c.in_ok-start.ensures.grows.0,
        c.in_ok-start.ensures.grows.1,
        omega (arith, last_size _ _ only, c.in_ok-start.ensures.grows.2),
      );
      means = last_behind c.args.meaning (pattern_of c.index-branches-last.result) _ only (len_of c.args.code.now) (emitted c.emit_back.new.code) c.in_ok-start.start c.in_ok-start.ensures.means;
      within = omega (arith, c.requires.some);
    }

pub emit_backward_choice-loop-i-preserved : goal.emit_backward_choice-loop-i-preserved
emit_backward_choice-loop-i-preserved t c =
    let same = branches_from c.args.branches.now c.loop-i.i (c.loop-i.i - 1) c.index-branches-i.result (omega (arith, c.loop-i-test.true)) c.loop-i.invariant.within c.index-branches-i.is in
    record {
      grows = (
        keeps_on _ _ _ c.loop-i.invariant.grows.0 (keeps_on _ _ _ c.in_ok-first.ensures.grows.0 c.in_ok-start-2.ensures.puts.kept),
        omega (arith, c.loop-i.invariant.grows.1, c.in_ok-first.ensures.grows.1, c.in_ok-start-2.ensures.puts.length),
        omega (arith, branch_sizes _ _ _ same, c.loop-i.invariant.grows.2, c.in_ok-first.ensures.grows.2, c.in_ok-start-2.ensures.puts.length),
      );
      means = behind_choice_emitted c.args.meaning _ _ _ same _ (len_of c.loop-i.code) _ _ _ _ c.loop-i.start c.in_ok-start-2.start c.loop-i.invariant.means c.in_ok-first.ensures.grows.0
          c.loop-i.invariant.grows.1 c.in_ok-first.ensures.means c.in_ok-start-2.ensures.puts.kept c.in_ok-start-2.ensures.puts.stands
          (omega (arith, c.loop-i.invariant.grows.1, c.in_ok-first.ensures.grows.1, c.in_ok-start-2.ensures.puts.at));
      within = omega (arith, c.loop-i.invariant.within);
    }

pub emit_backward_choice-emit_back-requires : goal.emit_backward_choice-emit_back-requires
emit_backward_choice-emit_back-requires t c = (
  search (rules, the_lemmas),
  few_in_branch c.args.branches.now (length c.args.branches.now - 1) c.index-branches-last.result c.requires.small (omega (arith, c.requires.some)) c.index-branches-last.is,
)

pub emit_backward_choice-emit_back-requires-in-loop-i : goal.emit_backward_choice-emit_back-requires-in-loop-i
emit_backward_choice-emit_back-requires-in-loop-i t c = (
  search (rules, the_lemmas),
  few_in_branch c.args.branches.now (c.loop-i.i - 1) c.index-branches-i.result c.requires.small (omega (arith, c.loop-i.invariant.within)) c.index-branches-i.is,
)

pub emit_back-returns-in-None-clause-means : goal.emit_back-returns-in-None-clause-means
emit_back-returns-in-None-clause-means t c =
    nowhere_emitted c.args.meaning (pattern_of c.args.branch.now) (exact_size c.args.meaning (pattern_of c.args.branch.now) None c.in-None.ensures c.requires.small)
    (len_of c.args.code.now) (emitted c.args.code.now)

pub emit_back-returns-in_ok-start-in-Some-clause-means : goal.emit_back-returns-in_ok-start-in-Some-clause-means
emit_back-returns-in_ok-start-in-Some-clause-means t c =
    back_emitted c.args.meaning (pattern_of c.args.branch.now) c.in-Some.size (exact_size c.args.meaning (pattern_of c.args.branch.now) (Some c.in-Some.size) c.in-Some.ensures c.requires.small)
    (len_of c.args.code.now) (emitted c.emit.new.code) (emitted c.put.new.self) c.in_ok-inner-in-Some.inner c.in_ok-start-in-Some.start
    c.in_ok-inner-in-Some.ensures.means c.in_ok-start-in-Some.ensures.puts.kept c.in_ok-start-in-Some.ensures.puts.stands
    (omega (arith, c.in_ok-inner-in-Some.ensures.grows.1, c.in_ok-start-in-Some.ensures.puts.at))

pub emit_backward-emit_backward_choice-requires : goal.emit_backward-emit_backward_choice-requires
emit_backward-emit_backward_choice-requires t c = (
  search (rules, the_lemmas),
  (
    omega (arith, some_parts (vec_len c.in-Alternation.branches) c.if-is_empty.ensures, c.deref.ensures.len),
    rw c.deref.ensures.value (few_in_branches _ _ c.in-Alternation.is c.requires.small),
  ),
)

pub emit_backward-returns-in_ok-start-in-len1-clause-means : goal.emit_backward-returns-in_ok-start-in-len1-clause-means
emit_backward-returns-in_ok-start-in-len1-clause-means t c =
    let parts = ap pattern_of c.in-Concat.is ∙ pattern-Concat c.in-Concat.parts in
    subst (λ (p : Pattern). BehindEmitted c.args.meaning p (len_of c.args.code.now) (emitted c.emit_backward.new.code) c.in_ok-start-in-len1.start)
    (sym (parts
    ∙ ap (λ (ts : List Tree). in_sequence (map pattern_of ts)) (sym c.as_slice.ensures.value)
    ∙ only_part c.as_slice.result.now c.only-item.result (omega (arith, c.in-len1.len_at_least, c.in-len1.len_below)) c.only-item.is))
    c.in_ok-start-in-len1.ensures.means

pub emit_backward-returns-in_ok-start-in_default-as_slice-clause-means : goal.emit_backward-returns-in_ok-start-in_default-as_slice-clause-means
emit_backward-returns-in_ok-start-in_default-as_slice-clause-means t c =
    let parts = ap pattern_of c.in-Concat.is ∙ pattern-Concat c.in-Concat.parts in
    sequence_behind c.args.meaning (pattern_of c.args.body.now) c.as_slice.result.now
    (parts ∙ ap (λ (ts : List Tree). in_sequence (map pattern_of ts)) (sym c.as_slice.ensures.value))
    (λ e. omega (arith, e, c.in_default-as_slice.len_at_least))
    (len_of c.args.code.now) _ c.in_ok-start-in_default-as_slice.start c.in_ok-start-in_default-as_slice.ensures.means

pub emit_condition-returns-clause-grows : goal.emit_condition-returns-clause-grows
emit_condition-returns-clause-grows t c = framed_grows (nodes (pattern_of c.args.condition.now)) _ _ _ _ _ _ _ _ _ _ c.in_ok-close.ensures c.in_ok-inner.ensures.grows c.in_ok-entry.ensures

pub emit_group-returns : goal.emit_group-returns
emit_group-returns t c = group_emits _ _ _ _ _ _ _ c.args.next _ _ _ c.in_ok-close.ensures c.in_ok-inner.ensures c.in_ok-entry.ensures

pub emit_atomic-returns : goal.emit_atomic-returns
emit_atomic-returns t c = atomic_emits _ _ _ _ _ _ c.args.next _ _ _ c.in_ok-close.ensures c.in_ok-inner.ensures c.in_ok-entry.ensures

pub emit_possessive-returns : goal.emit_possessive-returns
emit_possessive-returns t c = possessive_emits _ _ _ _ _ _ c.args.next _ (atomic_emits _ _ _ _ _ _ c.args.next _ _ _ c.in_ok-close.ensures c.in_ok-inner.ensures c.in_ok-entry.ensures)

pub emit_ahead-returns : goal.emit_ahead-returns
emit_ahead-returns t c = ahead_emits _ _ _ _ _ _ c.args.next _ _ c.in_ok-inner.ensures (rw (c.look.ensures.instr, c.look-2.ensures.instr) at c.in_ok-entry.ensures)

pub emit_behind-returns : goal.emit_behind-returns
emit_behind-returns t c =
    behind_emits _ _ _ _ _ _ c.args.next _ _ c.in_ok-start.ensures.means c.in_ok-start.ensures.grows (rw (c.look.ensures.instr, c.look-2.ensures.instr) at c.in_ok-entry.ensures)

pub emit-emit-requires-in-Conditional : goal.emit-emit-requires-in-Conditional
emit-emit-requires-in-Conditional t c =
    let is = ap pattern_of c.in-Conditional.is ∙ pattern-Conditional c.in-Conditional.condition c.in-Conditional.on_match c.in-Conditional.otherwise in (
      search (rules, the_lemmas),
      rw c.deref-in-Conditional-4.ensures (omega (arith, c.requires.small, nodes-conditional _ _ _ _ is)),
    )

pub emit-returns-in_ok-entry-in-Conditional : goal.emit-returns-in_ok-entry-in-Conditional
emit-returns-in_ok-entry-in-Conditional t c =
    let is = ap pattern_of c.in-Conditional.is ∙ pattern-Conditional c.in-Conditional.condition c.in-Conditional.on_match c.in-Conditional.otherwise in
    record {
      means = condition_emitted c.args.meaning (pattern_of c.in-Conditional.condition.value) (pattern_of c.in-Conditional.on_match.value) (pattern_of c.in-Conditional.otherwise.value) (pattern_of c.args.tree.now) is
          (sym (rw (c.deref-in-Conditional.ensures, c.deref-in-Conditional-2.ensures) at c.if-are_empty.ensures))
          (len_of c.args.code.now) (len_of c.emit.new.code) (len_of c.emit-in-Conditional.new.code) (emitted c.emit.new.code) (emitted c.emit-in-Conditional.new.code) (emitted c.emit_condition.new.code)
          c.args.next c.in_ok-one-in-Conditional.one c.in_ok-two-in-Conditional.two c.in_ok-entry-in-Conditional.entry
          (rw c.deref-in-Conditional-3.ensures at c.in_ok-one-in-Conditional.ensures.means) c.in_ok-two-in-Conditional.ensures.grows.0 c.in_ok-one-in-Conditional.ensures.grows.1
          (rw c.deref-in-Conditional-4.ensures at c.in_ok-two-in-Conditional.ensures.means) c.in_ok-entry-in-Conditional.ensures.grows.0
          (omega (arith, c.in_ok-one-in-Conditional.ensures.grows.1, c.in_ok-two-in-Conditional.ensures.grows.1))
          (rw c.deref-in-Conditional-5.ensures at c.in_ok-entry-in-Conditional.ensures.means);
      grows = (
        keeps_on (emitted c.args.code.now) (emitted c.emit.new.code) (emitted c.emit_condition.new.code) c.in_ok-one-in-Conditional.ensures.grows.0
            (keeps_on (emitted c.emit.new.code) (emitted c.emit-in-Conditional.new.code) (emitted c.emit_condition.new.code) c.in_ok-two-in-Conditional.ensures.grows.0 c.in_ok-entry-in-Conditional.ensures.grows.0),
        search rules,
        omega (
          arith,
          nodes-conditional _ _ _ _ is,
          rw c.deref-in-Conditional-3.ensures at c.in_ok-one-in-Conditional.ensures.grows.2,
          rw c.deref-in-Conditional-4.ensures at c.in_ok-two-in-Conditional.ensures.grows.2,
          rw c.deref-in-Conditional-5.ensures at c.in_ok-entry-in-Conditional.ensures.grows.2,
        ),
      );
      easy = λ easy. absurd (true≢false (sym easy ∙ ap is_easy is));
    }

pub emit-returns-then-are_empty : goal.emit-returns-then-are_empty
emit-returns-then-are_empty t c =
    rw (c.in-Conditional.is, pattern-Conditional)
    (IfOk-weaker c.emit_atomic-then-are_empty.result _ _ (λ entry. empty_emits c.args.meaning _ _ _ _ _ c.args.next entry (sym (rw (c.deref-in-Conditional.ensures, c.deref-in-Conditional-2.ensures) at c.if-are_empty.ensures))) (rw c.deref-then-are_empty.ensures at c.emit_atomic-then-are_empty.ensures))

pub emit-returns-in-Character : goal.emit-returns-in-Character
emit-returns-in-Character t c = rw (c.in-Character.is, pattern-Character)
    (IfOk-weaker c.put_shared.result _ _ (λ entry. shared_emits _ _ _ _ _ _ _ (λ is. refl) (λ later has still. (has, still))) c.put_shared.ensures)

pub emit-returns-in-RawByte : goal.emit-returns-in-RawByte
emit-returns-in-RawByte t c = rw (c.in-RawByte.is, pattern-RawByte)
    (IfOk-weaker c.put_shared-in-RawByte.result _ _ (λ entry. shared_emits _ _ _ _ _ _ _ (λ is. refl) (λ later has still. (has, still))) c.put_shared-in-RawByte.ensures)

pub emit-returns-in-Assertion : goal.emit-returns-in-Assertion
emit-returns-in-Assertion t c = rw (c.in-Assertion.is, pattern-Assertion)
    (IfOk-weaker c.put_both.result _ _ (λ entry. both_emit _ _ _ _ _ _ _ _ (λ is. (refl, refl)) (λ later has. has)) c.put_both.ensures)

pub emit-returns-in-GroupTest : goal.emit-returns-in-GroupTest
emit-returns-in-GroupTest t c = rw (c.in-GroupTest.is, pattern-GroupTest)
    (IfOk-weaker c.put_both-in-GroupTest.result _ _ (λ entry. both_emit _ _ _ _ _ _ _ _ (λ is. absurd (true≢false (sym is))) (λ later has. has)) c.put_both-in-GroupTest.ensures)

pub emit-returns-in-KeepStart : goal.emit-returns-in-KeepStart
emit-returns-in-KeepStart t c = rw (c.in-KeepStart.is, pattern-KeepStart)
    (IfOk-weaker c.put_both-in-KeepStart.result _ _ (λ entry. both_emit _ _ _ _ _ _ _ _ (λ is. absurd (true≢false (sym is))) (λ later has. has)) c.put_both-in-KeepStart.ensures)

pub emit-returns-in-ContinueHere : goal.emit-returns-in-ContinueHere
emit-returns-in-ContinueHere t c = rw (c.in-ContinueHere.is, pattern-ContinueHere)
    (IfOk-weaker c.put_both-in-ContinueHere.result _ _ (λ entry. both_emit _ _ _ _ _ _ _ _ (λ is. absurd (true≢false (sym is))) (λ later has. has)) c.put_both-in-ContinueHere.ensures)
