-- The equations of `pattern_of`, one for each variant.
use Rattle.std.proofs.Common.{◌≡◌, ℕ, Bool, map, Option, Vec, Box, Global, sym, ap, ◌∙◌}
use Rattle.fancy_tree.specs.declared.tree.Assertion.{Assertion}
use Rattle.fancy_tree.specs.declared.tree.RepeatKind.{RepeatKind}
use Rattle.fancy_tree.specs.declared.set.Set.{Set}
use Rattle.fancy_tree.specs.declared.tree.Tree.{Tree, Tree-F, fold-roll-Tree}
use Rattle.fancy_tree.specs.declared.tree.Tree.TheVariants as made
use Rattle.fancy_tree.specs.Members.{edges_of}
use Rattle.fancy_tree.specs.Pattern.{Pattern, empty, raw_byte, backreference, assertion, group_test, keep_start, continue_here, group, repeat, look_ahead, look_behind, atomic, conditional, in_sequence, in_choice, node_pattern, character, member_of, in_any_case, pattern_of}

pub pattern-Empty : pattern_of made.Empty ≡ empty
pattern-Empty = ap pattern_of (sym made.rolls-Empty) ∙ fold-roll-Tree Pattern node_pattern Tree-F.Empty

pub pattern-KeepStart : pattern_of made.KeepStart ≡ keep_start
pattern-KeepStart = ap pattern_of (sym made.rolls-KeepStart) ∙ fold-roll-Tree Pattern node_pattern Tree-F.KeepStart

pub pattern-ContinueHere : pattern_of made.ContinueHere ≡ continue_here
pattern-ContinueHere = ap pattern_of (sym made.rolls-ContinueHere) ∙ fold-roll-Tree Pattern node_pattern Tree-F.ContinueHere

pub pattern-Character : (c : ℕ) →
    pattern_of (made.Character c) ≡ character c
pattern-Character c =
    ap pattern_of (sym (made.rolls-Character c)) ∙ fold-roll-Tree Pattern node_pattern (Tree-F.Character c)

pub pattern-Member : (set : Set) →
    pattern_of (made.Member set) ≡ member_of (edges_of set)
pattern-Member set =
    ap pattern_of (sym (made.rolls-Member set)) ∙ fold-roll-Tree Pattern node_pattern (Tree-F.Member set)

pub pattern-InAnyCase : (set : Set) →
    pattern_of (made.InAnyCase set) ≡ in_any_case (edges_of set)
pattern-InAnyCase set =
    ap pattern_of (sym (made.rolls-InAnyCase set)) ∙ fold-roll-Tree Pattern node_pattern (Tree-F.InAnyCase set)

pub pattern-RawByte : (byte : ℕ) →
    pattern_of (made.RawByte byte) ≡ raw_byte byte
pattern-RawByte byte =
    ap pattern_of (sym (made.rolls-RawByte byte)) ∙ fold-roll-Tree Pattern node_pattern (Tree-F.RawByte byte)

pub pattern-Backreference : (folded : Bool) (number : ℕ) →
    pattern_of (made.Backreference folded number) ≡ backreference folded number
pattern-Backreference folded number =
    ap pattern_of (sym (made.rolls-Backreference folded number)) ∙ fold-roll-Tree Pattern node_pattern (Tree-F.Backreference folded number)

pub pattern-Assertion : (a : Assertion) →
    pattern_of (made.Assertion a) ≡ assertion a
pattern-Assertion a =
    ap pattern_of (sym (made.rolls-Assertion a)) ∙ fold-roll-Tree Pattern node_pattern (Tree-F.Assertion a)

pub pattern-GroupTest : (number : ℕ) →
    pattern_of (made.GroupTest number) ≡ group_test number
pattern-GroupTest number =
    ap pattern_of (sym (made.rolls-GroupTest number)) ∙ fold-roll-Tree Pattern node_pattern (Tree-F.GroupTest number)

pub pattern-Group : (index : ℕ) (body : Box Tree Global) →
    pattern_of (made.Group index body) ≡ group index (pattern_of body.value)
pattern-Group index body =
    ap pattern_of (sym (made.rolls-Group index body)) ∙ fold-roll-Tree Pattern node_pattern (Tree-F.Group index body)

pub pattern-Repeat : (low : ℕ) (high : Option ℕ) (kind : RepeatKind) (body : Box Tree Global) →
    pattern_of (made.Repeat low high kind body) ≡ repeat low high kind (pattern_of body.value)
pattern-Repeat low high kind body =
    ap pattern_of (sym (made.rolls-Repeat low high kind body)) ∙ fold-roll-Tree Pattern node_pattern (Tree-F.Repeat low high kind body)

pub pattern-LookAhead : (negated : Bool) (body : Box Tree Global) →
    pattern_of (made.LookAhead negated body) ≡ look_ahead negated (pattern_of body.value)
pattern-LookAhead negated body =
    ap pattern_of (sym (made.rolls-LookAhead negated body)) ∙ fold-roll-Tree Pattern node_pattern (Tree-F.LookAhead negated body)

pub pattern-LookBehind : (negated : Bool) (body : Box Tree Global) →
    pattern_of (made.LookBehind negated body) ≡ look_behind negated (pattern_of body.value)
pattern-LookBehind negated body =
    ap pattern_of (sym (made.rolls-LookBehind negated body)) ∙ fold-roll-Tree Pattern node_pattern (Tree-F.LookBehind negated body)

pub pattern-Atomic : (body : Box Tree Global) →
    pattern_of (made.Atomic body) ≡ atomic (pattern_of body.value)
pattern-Atomic body =
    ap pattern_of (sym (made.rolls-Atomic body)) ∙ fold-roll-Tree Pattern node_pattern (Tree-F.Atomic body)

pub pattern-Conditional : (condition on_match otherwise : Box Tree Global) →
    pattern_of (made.Conditional condition on_match otherwise) ≡ conditional (pattern_of condition.value) (pattern_of on_match.value) (pattern_of otherwise.value)
pattern-Conditional condition on_match otherwise =
    ap pattern_of (sym (made.rolls-Conditional condition on_match otherwise)) ∙ fold-roll-Tree Pattern node_pattern (Tree-F.Conditional condition on_match otherwise)

pub pattern-Concat : (parts : Vec Tree Global) →
    pattern_of (made.Concat parts) ≡ in_sequence (map pattern_of parts.items)
pattern-Concat parts =
    ap pattern_of (sym (made.rolls-Concat parts)) ∙ fold-roll-Tree Pattern node_pattern (Tree-F.Concat parts)

pub pattern-Alternation : (branches : Vec Tree Global) →
    pattern_of (made.Alternation branches) ≡ in_choice (map pattern_of branches.items)
pattern-Alternation branches =
    ap pattern_of (sym (made.rolls-Alternation branches)) ∙ fold-roll-Tree Pattern node_pattern (Tree-F.Alternation branches)

pub ruleset pattern_equations = (pattern-Empty, pattern-KeepStart, pattern-ContinueHere, pattern-Character, pattern-Member, pattern-InAnyCase, pattern-RawByte, pattern-Backreference, pattern-Assertion, pattern-GroupTest, pattern-Group, pattern-Repeat, pattern-LookAhead, pattern-LookBehind, pattern-Atomic, pattern-Conditional, pattern-Concat, pattern-Alternation)
