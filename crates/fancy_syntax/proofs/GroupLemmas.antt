-- Groups are numbered by their openings.
use Rattle.std.proofs.Common.{ℕ, ◌+◌, ◌≤◌, arith}
use Rattle.fancy_syntax.specs.Dialect.{Scope, Spells}
use Rattle.fancy_tree.specs.GroupNumbers.{Numbered, NumbersInOrder}
use Rattle.fancy_tree.specs.Pattern.{Pattern, empty, character, member_of, in_any_case, raw_byte, backreference, assertion, group_test, keep_start, continue_here, group, repeat, look_ahead, look_behind, atomic, conditional, followed, or_else, last_branch}
use Rattle.fancy_tree.specs.Text.{Text}
use Rattle.fancy_syntax.proofs.OrderLemmas.{in_order}

-- numbers in a range are numbers in a wider one
pub wider : (p : Pattern) (lo hi low high : ℕ) → low ≤ lo → hi ≤ high → Numbered lo hi p → Numbered low high p
wider empty lo hi low high a b h = tt
wider (character c) lo hi low high a b h = tt
wider (member_of edges) lo hi low high a b h = tt
wider (in_any_case edges) lo hi low high a b h = tt
wider (raw_byte byte) lo hi low high a b h = tt
wider (backreference folded number) lo hi low high a b h = tt
wider (assertion x) lo hi low high a b h = tt
wider (group_test number) lo hi low high a b h = tt
wider keep_start lo hi low high a b h = tt
wider continue_here lo hi low high a b h = tt
wider (group index body) lo hi low high a b (from, below, inside) =
    (omega (arith, a, from), omega (arith, b, below), wider body (index + 1) hi (index + 1) high (omega arith) b inside)
wider (repeat least most kind body) lo hi low high a b h = wider body lo hi low high a b h
wider (look_ahead negated body) lo hi low high a b h = wider body lo hi low high a b h
wider (look_behind negated body) lo hi low high a b h = wider body lo hi low high a b h
wider (atomic body) lo hi low high a b h = wider body lo hi low high a b h
wider (conditional condition first second) lo hi low high a b (x, y, z) =
    (wider condition lo hi low high a b x, wider first lo hi low high a b y, wider second lo hi low high a b z)
wider (followed part rest) lo hi low high a b (x, y) = (wider part lo hi low high a b x, wider rest lo hi low high a b y)
wider (or_else branch others) lo hi low high a b (x, y) = (wider branch lo hi low high a b x, wider others lo hi low high a b y)
wider (last_branch branch) lo hi low high a b h = wider branch lo hi low high a b h

-- numbers that follow one another lie in the range from the first of them to the next
within : (p : Pattern) (n m : ℕ) → NumbersInOrder n m p → (n ≤ m) × Numbered n m p
within empty n m e = (omega (arith, e), tt)
within (character c) n m e = (omega (arith, e), tt)
within (member_of edges) n m e = (omega (arith, e), tt)
within (in_any_case edges) n m e = (omega (arith, e), tt)
within (raw_byte byte) n m e = (omega (arith, e), tt)
within (backreference folded number) n m e = (omega (arith, e), tt)
within (assertion x) n m e = (omega (arith, e), tt)
within (group_test number) n m e = (omega (arith, e), tt)
within keep_start n m e = (omega (arith, e), tt)
within continue_here n m e = (omega (arith, e), tt)
within (group index body) n m (e, h) =
    let x = within body (n + 1) m h in
    (omega (arith, x.0), (omega (arith, e), omega (arith, e, x.0), rw e x.1))
within (repeat low high kind body) n m h = within body n m h
within (look_ahead negated body) n m h = within body n m h
within (look_behind negated body) n m h = within body n m h
within (atomic body) n m h = within body n m h
within (conditional condition first second) n m (k, l, a, b, c) =
    let x = within condition n k a in
    let y = within first k l b in
    let z = within second l m c in (
      omega (arith, x.0, y.0, z.0),
      (
        wider condition n k n m (omega arith) (omega (arith, y.0, z.0)) x.1,
        wider first k l n m (omega (arith, x.0)) (omega (arith, z.0)) y.1,
        wider second l m n m (omega (arith, x.0, y.0)) (omega arith) z.1,
      ),
    )
within (followed part rest) n m (k, a, b) =
    let x = within part n k a in
    let y = within rest k m b in
    (omega (arith, x.0, y.0), (wider part n k n m (omega arith) (omega (arith, y.0)) x.1, wider rest k m n m (omega (arith, x.0)) (omega arith) y.1))
within (or_else branch others) n m (k, a, b) =
    let x = within branch n k a in
    let y = within others k m b in
    (omega (arith, x.0, y.0), (wider branch n k n m (omega arith) (omega (arith, y.0)) x.1, wider others k m n m (omega (arith, x.0)) (omega arith) y.1))
within (last_branch branch) n m h = within branch n m h

pub numbered : (s : Scope) (text : Text) (p : Pattern) (e : Scope) → Spells s text p e → Numbered (s.opened + 1) (e.opened + 1) p
numbered s text p e x = (within p (s.opened + 1) (e.opened + 1) (in_order s text p e x)).1
