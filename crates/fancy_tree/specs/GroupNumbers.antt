-- The numbers of a pattern's groups.
use Rattle.std.specs.Prelude.{◌≡◌, ℕ, ◌+◌, ◌<◌, ◌≤◌, List, [], ◌∷◌}
use Rattle.fancy_tree.specs.Text.{Text}
use Rattle.fancy_tree.specs.Pattern.{Pattern, empty, character, member_of, in_any_case, raw_byte, backreference, assertion, group_test, keep_start, continue_here, group, repeat, look_ahead, look_behind, atomic, conditional, followed, or_else, last_branch}

-- each group of the pattern has a number from lo on and below hi, and those inside it have greater ones
abbrev pub Numbered : ℕ → ℕ → Pattern → Type 0
Numbered lo hi empty = Unit {0}
Numbered lo hi (character c) = Unit {0}
Numbered lo hi (member_of edges) = Unit {0}
Numbered lo hi (in_any_case edges) = Unit {0}
Numbered lo hi (raw_byte byte) = Unit {0}
Numbered lo hi (backreference folded number) = Unit {0}
Numbered lo hi (assertion a) = Unit {0}
Numbered lo hi (group_test number) = Unit {0}
Numbered lo hi keep_start = Unit {0}
Numbered lo hi continue_here = Unit {0}
Numbered lo hi (group index body) = (lo ≤ index) × (index < hi) × Numbered (index + 1) hi body
Numbered lo hi (repeat low high kind body) = Numbered lo hi body
Numbered lo hi (look_ahead negated body) = Numbered lo hi body
Numbered lo hi (look_behind negated body) = Numbered lo hi body
Numbered lo hi (atomic body) = Numbered lo hi body
Numbered lo hi (conditional condition first second) = Numbered lo hi condition × Numbered lo hi first × Numbered lo hi second
Numbered lo hi (followed part rest) = Numbered lo hi part × Numbered lo hi rest
Numbered lo hi (or_else branch others) = Numbered lo hi branch × Numbered lo hi others
Numbered lo hi (last_branch branch) = Numbered lo hi branch

-- The groups of the pattern have the numbers from n on, one after the other in the order of their openings, and the next group would have m.
abbrev pub NumbersInOrder : ℕ → ℕ → Pattern → Type 0
NumbersInOrder n m empty = m ≡ n
NumbersInOrder n m (character c) = m ≡ n
NumbersInOrder n m (member_of edges) = m ≡ n
NumbersInOrder n m (in_any_case edges) = m ≡ n
NumbersInOrder n m (raw_byte byte) = m ≡ n
NumbersInOrder n m (backreference folded number) = m ≡ n
NumbersInOrder n m (assertion a) = m ≡ n
NumbersInOrder n m (group_test number) = m ≡ n
NumbersInOrder n m keep_start = m ≡ n
NumbersInOrder n m continue_here = m ≡ n
NumbersInOrder n m (group index body) = (index ≡ n) × NumbersInOrder (n + 1) m body
NumbersInOrder n m (repeat low high kind body) = NumbersInOrder n m body
NumbersInOrder n m (look_ahead negated body) = NumbersInOrder n m body
NumbersInOrder n m (look_behind negated body) = NumbersInOrder n m body
NumbersInOrder n m (atomic body) = NumbersInOrder n m body
NumbersInOrder n m (conditional condition first second) = (k : ℕ) × (l : ℕ) × NumbersInOrder n k condition × NumbersInOrder k l first × NumbersInOrder l m second
NumbersInOrder n m (followed part rest) = (k : ℕ) × NumbersInOrder n k part × NumbersInOrder k m rest
NumbersInOrder n m (or_else branch others) = (k : ℕ) × NumbersInOrder n k branch × NumbersInOrder k m others
NumbersInOrder n m (last_branch branch) = NumbersInOrder n m branch

-- each of these names has the number of a group, from lo on and below hi, and each number is greater than those before it
abbrev pub Rising : ℕ → ℕ → List (Text × ℕ) → Type 0
Rising lo hi [] = Unit {0}
Rising lo hi (g ∷ names) = (lo ≤ g.1) × (g.1 < hi) × Rising (g.1 + 1) hi names
