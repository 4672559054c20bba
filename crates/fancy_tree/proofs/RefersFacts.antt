-- What stays the same of a pattern when the numbers of groups are put in: its groups, what is empty, and its sizes.
use Rattle.std.proofs.Common.{◌≡◌, ℕ, ◌+◌, refl, ap, ap₂}
use Rattle.fancy_tree.specs.declared.tree.Meaning.{Meaning}
use Rattle.fancy_tree.specs.Pattern.{Pattern, empty, character, member_of, in_any_case, raw_byte, backreference, assertion, group_test, keep_start, continue_here, group, repeat, look_ahead, look_behind, atomic, conditional, followed, or_else, last_branch}
use Rattle.fancy_tree.specs.Sizes.{size, is_empty, plus_size, common_size, repeat_size}
use Rattle.fancy_tree.specs.GroupNumbers.{Numbered}
use Rattle.fancy_tree.specs.Refers.{refers_to}

pub numbered-refers_to : (f : ℕ → ℕ) (lo hi : ℕ) (p : Pattern) → Numbered lo hi p → Numbered lo hi (refers_to f p)
unfolding refers_to
numbered-refers_to f lo hi empty h = tt
numbered-refers_to f lo hi (character c) h = tt
numbered-refers_to f lo hi (member_of edges) h = tt
numbered-refers_to f lo hi (in_any_case edges) h = tt
numbered-refers_to f lo hi (raw_byte byte) h = tt
numbered-refers_to f lo hi (backreference folded number) h = tt
numbered-refers_to f lo hi (assertion a) h = tt
numbered-refers_to f lo hi (group_test number) h = tt
numbered-refers_to f lo hi keep_start h = tt
numbered-refers_to f lo hi continue_here h = tt
numbered-refers_to f lo hi (group index body) (from, below, inside) = (from, below, numbered-refers_to f (index + 1) hi body inside)
numbered-refers_to f lo hi (repeat low high kind body) h = numbered-refers_to f lo hi body h
numbered-refers_to f lo hi (look_ahead negated body) h = numbered-refers_to f lo hi body h
numbered-refers_to f lo hi (look_behind negated body) h = numbered-refers_to f lo hi body h
numbered-refers_to f lo hi (atomic body) h = numbered-refers_to f lo hi body h
numbered-refers_to f lo hi (conditional condition first second) (x, y, z) =
    (numbered-refers_to f lo hi condition x, numbered-refers_to f lo hi first y, numbered-refers_to f lo hi second z)
numbered-refers_to f lo hi (followed part rest) (x, y) = (numbered-refers_to f lo hi part x, numbered-refers_to f lo hi rest y)
numbered-refers_to f lo hi (or_else branch others) (x, y) = (numbered-refers_to f lo hi branch x, numbered-refers_to f lo hi others y)
numbered-refers_to f lo hi (last_branch branch) h = numbered-refers_to f lo hi branch h

pub is_empty-refers_to : (f : ℕ → ℕ) (p : Pattern) → is_empty (refers_to f p) ≡ is_empty p
unfolding refers_to
is_empty-refers_to f empty = refl
is_empty-refers_to f _ = refl

pub size-refers_to : (f : ℕ → ℕ) (m : Meaning) (p : Pattern) → size m (refers_to f p) ≡ size m p
unfolding size refers_to
size-refers_to f m empty = refl
size-refers_to f m (character c) = refl
size-refers_to f m (member_of edges) = refl
size-refers_to f m (in_any_case edges) = refl
size-refers_to f m (raw_byte byte) = refl
size-refers_to f m (backreference folded number) = refl
size-refers_to f m (assertion a) = refl
size-refers_to f m (group_test number) = refl
size-refers_to f m keep_start = refl
size-refers_to f m continue_here = refl
size-refers_to f m (group index body) = size-refers_to f m body
size-refers_to f m (repeat low high kind body) = ap (repeat_size low high) (size-refers_to f m body)
size-refers_to f m (look_ahead negated body) = refl
size-refers_to f m (look_behind negated body) = refl
size-refers_to f m (atomic body) = size-refers_to f m body
size-refers_to f m (conditional condition first second) =
    rw (is_empty-refers_to f first, is_empty-refers_to f second, size-refers_to f m condition, size-refers_to f m first, size-refers_to f m second) refl
size-refers_to f m (followed part rest) = ap₂ plus_size (size-refers_to f m part) (size-refers_to f m rest)
size-refers_to f m (or_else branch others) = ap₂ common_size (size-refers_to f m branch) (size-refers_to f m others)
size-refers_to f m (last_branch branch) = size-refers_to f m branch
