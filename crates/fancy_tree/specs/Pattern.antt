-- A pattern as pure data, and the pattern that a `Tree` stands for. Unlike a `Tree` it holds no memory, so that two readings of one text can be one pattern.
use Rattle.std.specs.Prelude.{ℕ, Bool, List, [], ◌∷◌, Option}
use Rattle.fancy_tree.specs.declared.tree.Assertion.{Assertion}
use Rattle.fancy_tree.specs.declared.tree.RepeatKind.{RepeatKind}
use Rattle.fancy_tree.specs.declared.tree.Tree.{Tree}
use Rattle.fancy_tree.specs.declared.tree.Tree.TheOpen.{Tree-F}
use Rattle.fancy_tree.specs.declared.tree.Tree.TheFolds.{fold-Tree}
use Rattle.fancy_tree.specs.Members.{edges_of}

pub data Pattern : Type 0 where
  -- consumes nothing, and always holds
  empty : Pattern
  -- one item, a character or in byte meaning a byte, with this code
  character : ℕ → Pattern
  -- one item of a set, by the rising numbers at which the set begins and ends in turn
  member_of : List ℕ → Pattern
  -- a literal under flag `i`: one item of the set of what that flag takes for the literal's character, by the edges of this set
  in_any_case : List ℕ → Pattern
  -- one byte, in any meaning
  raw_byte : ℕ → Pattern
  -- the text of this group; under flag `i` where it is true
  backreference : Bool → ℕ → Pattern
  assertion : Assertion → Pattern
  -- the group has taken part
  group_test : ℕ → Pattern
  -- the match starts here
  keep_start : Pattern
  -- the search starts here
  continue_here : Pattern
  group : ℕ → Pattern → Pattern
  -- the least and the greatest number of turns
  repeat : ℕ → Option ℕ → RepeatKind → Pattern → Pattern
  -- negated, if the flag is true
  look_ahead : Bool → Pattern → Pattern
  look_behind : Bool → Pattern → Pattern
  atomic : Pattern → Pattern
  -- condition, first branch, second branch
  conditional : Pattern → Pattern → Pattern → Pattern
  -- a part, and the rest of the sequence
  followed : Pattern → Pattern → Pattern
  -- a branch, and the alternative of the others
  or_else : Pattern → Pattern → Pattern
  -- the last branch of an alternative, so that `a|(?:b|c)` is not `a|b|c`
  last_branch : Pattern → Pattern

-- A sequence without parts is `empty`, and one of a single part is that part.
abbrev pub in_sequence : List Pattern → Pattern
in_sequence [] = empty
in_sequence (p ∷ []) = p
in_sequence (p ∷ q ∷ rest) = followed p (in_sequence (q ∷ rest))

-- an alternative of these branches; without one it matches nothing
abbrev pub in_choice : List Pattern → Pattern
in_choice [] = member_of []
in_choice (p ∷ []) = last_branch p
in_choice (p ∷ q ∷ rest) = or_else p (in_choice (q ∷ rest))

-- What stands between bars: a single branch is no alternative.
abbrev pub in_branches : List Pattern → Pattern
in_branches [] = empty
in_branches (p ∷ []) = p
in_branches (p ∷ q ∷ rest) = in_choice (p ∷ q ∷ rest)

-- one node, with the pattern of each child in its place
abbrev pub node_pattern : Tree-F Pattern → Pattern
node_pattern Tree-F.Empty = empty
node_pattern (Tree-F.Character c) = character c
node_pattern (Tree-F.Member set) = member_of (edges_of set)
node_pattern (Tree-F.InAnyCase set) = in_any_case (edges_of set)
node_pattern (Tree-F.RawByte byte) = raw_byte byte
node_pattern (Tree-F.Backreference folded number) = backreference folded number
node_pattern (Tree-F.Assertion a) = assertion a
node_pattern (Tree-F.GroupTest number) = group_test number
node_pattern Tree-F.KeepStart = keep_start
node_pattern Tree-F.ContinueHere = continue_here
node_pattern (Tree-F.Group index body) = group index body.value
node_pattern (Tree-F.Repeat low high kind body) = repeat low high kind body.value
node_pattern (Tree-F.LookAhead negated body) = look_ahead negated body.value
node_pattern (Tree-F.LookBehind negated body) = look_behind negated body.value
node_pattern (Tree-F.Atomic body) = atomic body.value
node_pattern (Tree-F.Conditional condition on_match otherwise) = conditional condition.value on_match.value otherwise.value
node_pattern (Tree-F.Concat parts) = in_sequence parts.items
node_pattern (Tree-F.Alternation branches) = in_choice branches.items

-- the pattern that a tree stands for
abbrev pub pattern_of : Tree → Pattern
pattern_of = fold-Tree Pattern node_pattern
