use Rattle.std.proofs.Common.{Global, List, Vec, ◌≡◌, ◌∙◌, ◌+◌, ◌++◌, length, map, drop, ap, sym, subst, arith}
use Rattle.std.proofs.lemmas.Bool.{eqb-false}
use Rattle.fancy_tree.specs.Members.{edges_of}
use Rattle.fancy_tree.specs.Sets.{has}
use Rattle.fancy_tree.specs.declared.tree.Tree.{Tree}
use Rattle.fancy_tree.specs.Pattern.{Pattern, group, repeat, in_choice, in_sequence, pattern_of}
use Rattle.fancy_tree.proofs.PatternLemmas.{pattern-Assertion, pattern-Empty, pattern-Group, pattern-InAnyCase, pattern-Member, pattern-RawByte, pattern-Repeat}
use Rattle.fancy_required.specs.Told.{AddsSome, gap, Tells, TellsBoth, TellsLess, TellsRow, reads_any_case, reads_member, ReadsItem}
use Rattle.fancy_required.specs.declared.told.Told.{Told}
use Rattle.fancy_required.proofs.ToldLemmas.{all_told, branch_on, first_branch, kind_from, kind_of_new, on, part_on, row_end, tells_all, tells_byte, tells_group, tells_nothing, tells_place, tells_sequence, tells_turns, told_any}
use Rattle.fancy_required.proofs.told.+telling.Goals as goal
use Rattle.fancy_required.proofs.told.+telling.Goals.{tell_branches-else-loop-i-test, tell_branches-then-loop-i-test+then-tells_nothing, tell-then-low-ge1+in_ok-tell-in-Repeat, tell-else-low-ge1}

pub tell-tell_member-requires : goal.tell-tell_member-requires
tell-tell_member-requires t c = subst (λ (p : Pattern). ReadsItem p (has (edges_of c.in-Member.set))) (sym (ap pattern_of c.in-Member.is ∙ pattern-Member c.in-Member.set)) (reads_member (edges_of c.in-Member.set))

pub tell-tell_member-requires-in-InAnyCase : goal.tell-tell_member-requires-in-InAnyCase
tell-tell_member-requires-in-InAnyCase t c =
    subst (λ (p : Pattern). ReadsItem p (has (edges_of c.in-InAnyCase.set))) (sym (ap pattern_of c.in-InAnyCase.is ∙ pattern-InAnyCase c.in-InAnyCase.set)) (reads_any_case (edges_of c.in-InAnyCase.set))

pub tell-returns-in-Empty : goal.tell-returns-in-Empty
tell-returns-in-Empty t c =
    subst (λ (p : Pattern). AddsSome (Tells c.args.meaning p) c.args.told.now.items c.args.told.now.items) (sym (ap pattern_of c.in-Empty.is ∙ pattern-Empty)) (tells_nothing c.args.meaning c.args.told.now.items)

pub tell-returns-in-Assertion : goal.tell-returns-in-Assertion
tell-returns-in-Assertion t c =
    subst (λ (p : Pattern). AddsSome (Tells c.args.meaning p) c.args.told.now.items c.args.told.now.items) (sym (ap pattern_of c.in-Assertion.is ∙ pattern-Assertion c.in-Assertion.field-0))
    (tells_place c.args.meaning c.in-Assertion.field-0 c.args.told.now.items)

pub tell-returns-in_ok-tell_bytes-in-RawByte : goal.tell-returns-in_ok-tell_bytes-in-RawByte
tell-returns-in_ok-tell_bytes-in-RawByte t c =
    subst (λ (p : Pattern). AddsSome (Tells c.args.meaning p) c.args.told.now.items c.tell_bytes.new.told.items) (sym (ap pattern_of c.in-RawByte.is ∙ pattern-RawByte c.in-RawByte.byte))
    (tells_byte c.args.meaning c.in-RawByte.byte c.args.told.now.items c.tell_bytes.new.told.items c.in_ok-tell_bytes-in-RawByte.ensures)

pub tell-returns-in_ok-tell-in-Group : goal.tell-returns-in_ok-tell-in-Group
tell-returns-in_ok-tell-in-Group t c =
    subst (λ (p : Pattern). AddsSome (Tells c.args.meaning p) c.args.told.now.items c.tell.new.told.items)
    (ap (λ (u : Tree). group c.in-Group.index (pattern_of u)) c.deref.ensures ∙ sym (ap pattern_of c.in-Group.is ∙ pattern-Group c.in-Group.index c.in-Group.body))
    (tells_group c.args.meaning c.in-Group.index (pattern_of c.deref.result.now) c.args.told.now.items c.tell.new.told.items c.in_ok-tell-in-Group.ensures)

pub tell-returns-in_ok-push-in-Repeat : goal.tell-returns-in_ok-push-in-Repeat
tell-returns-in_ok-push-in-Repeat t c =
    let r = c.in-Repeat in
    elim c.if-low-ge1.branch [
      | tell-then-low-ge1+in_ok-tell-in-Repeat w ↦
          subst (λ (p : Pattern). AddsSome (Tells c.args.meaning p) c.args.told.now.items c.push.new.self.items)
          (ap (λ (u : Tree). repeat r.low r.high r.kind (pattern_of u)) w.deref-then-low-ge1.ensures ∙ sym (ap pattern_of r.is ∙ pattern-Repeat r.low r.high r.kind r.body))
          (tells_turns c.args.meaning r.low r.high r.kind (pattern_of w.deref-then-low-ge1.result.now) c.args.told.now.items w.tell-then-low-ge1.new.told.items c.push.new.self.items (omega (arith, w.if-low-ge1))
          w.in_ok-tell-in-Repeat.ensures (c.in_ok-push-in-Repeat.ensures.items ∙ ap (λ (v : Vec Told Global). v.items ++ gap) w.told-is))
      | tell-else-low-ge1 w ↦ told_any c.args.meaning (pattern_of c.args.tree.now) c.args.told.now.items c.push.new.self.items (c.in_ok-push-in-Repeat.ensures.items ∙ ap (λ (v : Vec Told Global). v.items ++ gap) w.told-is)
    ]

pub tell-returns-in_ok-push-in-Backreference : goal.tell-returns-in_ok-push-in-Backreference
tell-returns-in_ok-push-in-Backreference t c =
    told_any c.args.meaning (pattern_of c.args.tree.now) c.args.told.now.items c.push-in-Backreference.new.self.items c.in_ok-push-in-Backreference.ensures.items

pub tell_branches-returns-then-matches : goal.tell_branches-returns-then-matches
tell_branches-returns-then-matches t c =
    told_any c.args.meaning (in_choice (map pattern_of c.args.trees.now)) c.args.told.now.items c.push.new.self.items c.in_ok-push.ensures.items

pub tell_branches-loop-i-init : goal.tell_branches-loop-i-init
tell_branches-loop-i-init t c =
    let tells = Tells c.args.meaning (pattern_of c.index-trees-0.result) in
    let some : length c.args.trees.now ≡ 0 → ⊥ = eqb-false (length c.args.trees.now) 0 (sym c.if-is_empty.ensures) in
    first_branch c.args.meaning c.args.trees.now c.index-trees-0.result c.tell.new.told.items (omega (arith, some)) c.index-trees-0.is
    (kind_of_new tells c.new-common.result.items c.tell.new.told.items c.new-common.ensures.items c.in_ok-tell.ensures)

pub tell_branches-loop-i-preserved : goal.tell_branches-loop-i-preserved
tell_branches-loop-i-preserved t c =
    let trees = Tells c.args.meaning (pattern_of c.index-trees-i.result) in
    let other = kind_of_new trees c.new-other.result.items c.tell-in-loop-i.new.told.items c.new-other.ensures.items c.in_ok-tell-2.ensures in
    let both = kind_of_new (TellsBoth c.deref-in-loop-i.result.now c.deref-in-loop-i-2.result.now) c.new-both.result.items c.tell_common.new.told.items c.new-both.ensures.items c.in_ok-tell_common.ensures in
    branch_on c.args.meaning c.args.trees.now c.loop-i.i c.index-trees-i.result c.loop-i.common.items c.tell-in-loop-i.new.told.items c.tell_common.new.told.items (omega arith) c.index-trees-i.is
    other
    (subst (TellsLess c.tell_common.new.told.items) c.deref-in-loop-i.ensures.value both.one) (subst (TellsLess c.tell_common.new.told.items) c.deref-in-loop-i-2.ensures.value both.other) c.loop-i.invariant

pub tell_branches-returns : goal.tell_branches-returns
tell_branches-returns t c =
    elim c.loop-i-test.branch [
      | tell_branches-else-loop-i-test w ↦
          let some : length c.args.trees.now ≡ 0 → ⊥ = eqb-false (length c.args.trees.now) 0 (sym c.if-is_empty.ensures) in
          tells_all c.args.meaning c.args.trees.now c.loop-i.i c.loop-i.common.items c.args.told.now.items c.append.new.self.items (omega (arith, some)) (omega (arith, w.loop-i-test)) c.in_ok-append.ensures.items c.loop-i.invariant
      | tell_branches-then-loop-i-test+then-tells_nothing w ↦
          told_any c.args.meaning (in_choice (map pattern_of c.args.trees.now)) c.args.told.now.items c.append.new.self.items
          (c.in_ok-append.ensures.items ∙ ap (λ (l : List Told). c.args.told.now.items ++ l) (sym w.deref.ensures.value ∙ w.tells_nothing.ensures w.if-tells_nothing.true))
    ]

pub tell_row-loop-i-preserved : goal.tell_row-loop-i-preserved
tell_row-loop-i-preserved t c =
    let ps = map pattern_of c.args.trees.now in
    on (TellsRow c.args.meaning (drop c.loop-i.i ps)) (TellsRow c.args.meaning (drop (c.loop-i.i + 1) ps)) (TellsRow c.args.meaning ps)
    c.args.told.now.items c.loop-i.told.items c.tell.new.told.items c.in_ok-tell.ensures.told
    (λ more h. part_on c.args.meaning c.args.trees.now c.loop-i.i c.index-trees-i.result (omega arith) c.index-trees-i.is c.in_ok-tell.ensures.kind h)
    c.in_ok-tell.ensures.is c.loop-i.invariant

pub tell_row-returns : goal.tell_row-returns
tell_row-returns t c =
    let ps = map pattern_of c.args.trees.now in
    kind_from (TellsRow c.args.meaning ps) (Tells c.args.meaning (in_sequence ps)) c.args.told.now.items c.loop-i.told.items (λ told h. tells_sequence c.args.meaning ps h)
    (all_told (TellsRow c.args.meaning (drop c.loop-i.i ps)) (TellsRow c.args.meaning ps) c.args.told.now.items c.loop-i.told.items (row_end c.args.meaning c.args.trees.now c.loop-i.i (omega arith)) c.loop-i.invariant)
