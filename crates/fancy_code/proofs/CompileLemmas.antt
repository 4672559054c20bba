-- What one more piece of code makes of what was emitted before.
use Rattle.std.proofs.Common.{◌≡◌, ℕ, ◌+◌, ◌*◌, ◌^◌, ◌<◌, ◌≤◌, Bool, true, false, ◌&&◌, List, [], ◌∷◌, length, map, drop, get_or, sum_by, Option, Some, None, Vec, Global, refl, sym, ap, ◌∙◌, subst, arith, add-one, true≢false}
use Rattle.std.specs.Prelude.{slice_set}
use Rattle.std.proofs.lemmas.Bool.{and_parts}
use Rattle.std.proofs.lemmas.List.{length-map, get_or-map}
use Rattle.std.proofs.lemmas.List.Sums.{sum_by-cons, get_or-le-sum_by}
use Rattle.fancy_bytes.specs.Openings.{opening}
use Rattle.fancy_tree.specs.declared.tree.Meaning.{Meaning}
use Rattle.fancy_tree.specs.declared.tree.RepeatKind.TheVariants.{Greedy, Possessive}
use Rattle.fancy_tree.specs.declared.tree.Tree.{Tree}
use Rattle.fancy_tree.specs.declared.tree.Tree.TheVariants.{Concat, Alternation}
use Rattle.fancy_tree.specs.Pattern.{Pattern, group, repeat, or_else, last_branch, look_ahead, look_behind, atomic, conditional, in_sequence, in_choice, pattern_of}
use Rattle.fancy_tree.specs.Sizes.{nodes, repeat_nodes, size, is_empty}
use Rattle.fancy_tree.proofs.PatternLemmas.{pattern-Concat, pattern-Alternation}
use Rattle.fancy_tree.proofs.PartLemmas.{parts_from}
use Rattle.fancy_tree.proofs.SizeLemmas.{nodes-pos, nodes-in_sequence, nodes-in_choice}
use Rattle.fancy_code.specs.Instructions.{Instruction}
use Rattle.fancy_code.specs.Instructions as i
use Rattle.fancy_code.specs.declared.code.Entry.{Entry}
use Rattle.fancy_code.specs.declared.emitter.Emitter.{Emitter}
use Rattle.fancy_code.specs.Emitted.{Appends, Emits, PutsShared, PutsBoth, emitted, len_of}
use Rattle.fancy_meaning.specs.Easy.{is_easy, kind_of}
use Rattle.fancy_code.specs.Compile.{StaysEasy, is_easy_instr, Has, HasBoth, Extends, Keeps, Means, Emitted, CopiesBy, CopiesEmitted, OptionalsBy, OptionalsEmitted, StarEmitted, RestEmitted, RepeatBy, AtomicBy, ConditionBy, TestBy, TestEmitted, EitherBy, BackBy, Behind, BackEmitted, BehindEmitted, stopping, split_of, look_of}
use Rattle.fancy_code.proofs.CodeLemmas.{keeps_on, keeps_set, emitted_later, both_later, emitted_set, has_set}

-- of an item, whose one instruction serves both forms
pub shared_emits : (m : Meaning) → (p : Pattern) (i : Instruction) (before after : Emitter) (next entry : Entry) → (is_easy p ≡ true → is_easy_instr i ≡ true)
    → ((later : List Instruction) → Has later entry.moved i → entry.still ≡ entry.moved → Means m p later next entry) → PutsShared i before after entry → Emits m p before after next entry
shared_emits m p i before after next entry easy means puts = record {
  means = λ later x. means later (x entry.moved i (omega (arith, puts.put.at)) puts.put.stands) puts.still;
  grows = (puts.put.kept, omega (arith, puts.put.length), omega (arith, nodes-pos p, puts.put.length));
  easy = λ is. puts.put.easy (easy is);
}

-- of what has one instruction for each form
pub both_emit : (m : Meaning) → (p : Pattern) (a b : Instruction) (before after : Emitter) (next entry : Entry) → (is_easy p ≡ true → (is_easy_instr a ≡ true) × (is_easy_instr b ≡ true))
    → ((later : List Instruction) → HasBoth later entry a b → Means m p later next entry) → PutsBoth a b before after entry → Emits m p before after next entry
both_emit m p a b before after next entry easy means puts = record {
  means = λ later x. means later (both_later (emitted after) (emitted after) (len_of before) entry a b (λ q i z h. h) (omega (arith, puts.moved_at)) (omega (arith, puts.still_at)) puts.stands later x);
  grows = (puts.kept, omega (arith, puts.length), omega (arith, nodes-pos p, puts.length));
  easy = λ is. puts.easy (easy is).0 (easy is).1;
}

-- it is the same after what has the same instructions
pub emits_after : (m : Meaning) → (p : Pattern) (was before after : Emitter) (next entry : Entry) → emitted before ≡ emitted was → Emits m p before after next entry → Emits m p was after next entry
emits_after m p was before after next entry e h = record {
  means = subst (λ (l : List Instruction). Emitted m p (length l) (emitted after) next entry) e h.means;
  grows = subst (λ (l : List Instruction). Keeps l (emitted after) × (length l ≤ len_of after) × (len_of after ≤ length l + 4 * nodes p)) e h.grows;
  easy = λ is. subst (λ (l : List Instruction). StaysEasy l (emitted after)) e (h.easy is);
}

-- what was emitted, and then one instruction for each form
pub then_both : (P : List Instruction → Type 0) → (most : ℕ) (a b : Instruction) (e0 e1 e2 : Emitter) (entry : Entry) → Appends most e0 e1
    → ((later : List Instruction) → Extends (len_of e0) (emitted e1) later → P later) → PutsBoth a b e1 e2 entry → (later : List Instruction) → Extends (len_of e0) (emitted e2) later
    → P later × HasBoth later entry a b
then_both P most a b e0 e1 e2 entry grows body opening later x = (
  emitted_later P (emitted e1) (emitted e2) (len_of e0) (len_of e0) opening.kept (omega arith) body later x,
  both_later (emitted e2) (emitted e2) (len_of e0) entry a b (λ q i z h. h) (omega (arith, grows.1, opening.moved_at)) (omega (arith, grows.1, opening.still_at)) opening.stands later x,
)

-- one instruction for each form, what was emitted then, and one more for each form
pub framed : (P : List Instruction → Type 0) → (most : ℕ) (a b c d : Instruction) (e0 e1 e2 e3 : Emitter) (close entry : Entry) → PutsBoth a b e0 e1 close → Appends most e1 e2
    → ((later : List Instruction) → Extends (len_of e1) (emitted e2) later → P later) → PutsBoth c d e2 e3 entry → (later : List Instruction) → Extends (len_of e0) (emitted e3) later
    → P later × HasBoth later close a b × HasBoth later entry c d
framed P most a b c d e0 e1 e2 e3 close entry closing grows body opening later x = (
  emitted_later P (emitted e2) (emitted e3) (len_of e0) (len_of e1) opening.kept (omega (arith, closing.length)) body later x,
  both_later (emitted e1) (emitted e3) (len_of e0) close a b (keeps_on _ _ _ grows.0 opening.kept) (omega (arith, closing.moved_at)) (omega (arith, closing.still_at)) closing.stands later x,
  both_later (emitted e3) (emitted e3) (len_of e0) entry c d (λ q i z h. h) (omega (arith, closing.length, grows.1, opening.moved_at)) (omega (arith, closing.length, grows.1, opening.still_at)) opening.stands later x,
)

pub framed_grows : (n : ℕ) → (a b c d : Instruction) (e0 e1 e2 e3 : Emitter) (close entry : Entry) → PutsBoth a b e0 e1 close → Appends (4 * n) e1 e2 → PutsBoth c d e2 e3 entry → Appends (4 * (n + 1)) e0 e3
framed_grows n a b c d e0 e1 e2 e3 close entry closing grows opening = (
  keeps_on _ _ _ closing.kept (keeps_on _ _ _ grows.0 opening.kept),
  omega (arith, closing.length, grows.1, opening.length),
  omega (arith, closing.length, grows.2, opening.length),
)

-- of an alternative: the last branch, and one that was emitted after the others
pub last_emits : (m : Meaning) → (p : Pattern) (before after : Emitter) (next entry : Entry) → Emits m p before after next entry → Emits m (last_branch p) before after next entry
unfolding nodes
last_emits m p before after next entry h = record {
  means = h.means;
  grows = (h.grows.0, h.grows.1, omega (arith, h.grows.2));
  easy = h.easy;
}

pub choice_emits : (m : Meaning) → (p others : Pattern) (e0 e1 e2 e3 : Emitter) (next one two entry : Entry) → Emits m others e0 e1 next two → Emits m p e1 e2 next one
    → PutsBoth (i.Split one.moved two.moved) (i.Split one.still two.still) e2 e3 entry → Emits m (or_else p others) e0 e3 next entry
unfolding nodes
choice_emits m p others e0 e1 e2 e3 next one two entry a b split = record {
  means = λ later x. (
    one,
    two,
    emitted_later (λ later. Means m p later next one) (emitted e2) (emitted e3) (len_of e0) (len_of e1) split.kept (omega (arith, a.grows.1)) b.means later x,
    emitted_later (λ later. Means m others later next two) (emitted e1) (emitted e3) (len_of e0) (len_of e0) (keeps_on _ _ _ b.grows.0 split.kept) (omega arith) a.means later x,
    both_later (emitted e3) (emitted e3) (len_of e0) entry _ _ (λ q i z h. h) (omega (arith, a.grows.1, b.grows.1, split.moved_at)) (omega (arith, a.grows.1, b.grows.1, split.still_at)) split.stands later x,
  );
  grows = (keeps_on _ _ _ a.grows.0 (keeps_on _ _ _ b.grows.0 split.kept), omega (arith, a.grows.1, b.grows.1, split.length), omega (arith, a.grows.2, b.grows.2, split.length));
  easy = λ is h. let parts = and_parts (is_easy p) (is_easy others) is in split.easy refl refl (b.easy parts.0 (a.easy parts.1 h));
}

pub group_emits : (m : Meaning) → (index : ℕ) (p : Pattern) (e0 e1 e2 e3 : Emitter) (next close inner entry : Entry) → PutsBoth (i.Close index next.moved) (i.Close index next.still) e0 e1 close
    → Emits m p e1 e2 close inner → PutsBoth (i.Open index inner.moved) (i.Open index inner.still) e2 e3 entry → Emits m (group index p) e0 e3 next entry
unfolding nodes
group_emits m index p e0 e1 e2 e3 next close inner entry closing body opening = record {
  means = λ later x. let all = framed (λ later. Means m p later close inner) (4 * nodes p) _ _ _ _ _ _ _ _ _ _ closing body.grows body.means opening later x in (close, inner, all.0, all.1, all.2);
  grows = framed_grows (nodes p) _ _ _ _ _ _ _ _ _ _ closing body.grows opening;
  easy = λ is h. opening.easy refl refl (body.easy is (closing.easy refl refl h));
}

pub atomic_emits : (m : Meaning) → (p : Pattern) (e0 e1 e2 e3 : Emitter) (next close inner entry : Entry) → PutsBoth (i.Commit next.moved) (i.Commit next.still) e0 e1 close
    → Emits m p e1 e2 close inner → PutsBoth (i.Enter inner.moved) (i.Enter inner.still) e2 e3 entry → Emits m (atomic p) e0 e3 next entry
unfolding nodes
atomic_emits m p e0 e1 e2 e3 next close inner entry closing body opening = record {
  means = λ later x. let all = framed (λ later. Means m p later close inner) (4 * nodes p) _ _ _ _ _ _ _ _ _ _ closing body.grows body.means opening later x in (close, inner, all.0, all.1, all.2);
  grows = framed_grows (nodes p) _ _ _ _ _ _ _ _ _ _ closing body.grows opening;
  easy = λ is. absurd (true≢false (sym is));
}

-- a possessive repeat is an atomic group round the greedy one
pub possessive_emits : (m : Meaning) → (low : ℕ) (high : Option ℕ) (p : Pattern) (before after : Emitter) (next entry : Entry) → Emits m (atomic (repeat low high Greedy p)) before after next entry
    → Emits m (repeat low high Possessive p) before after next entry
unfolding nodes
possessive_emits m low high p before after next entry h = record {
  means = h.means;
  grows = (h.grows.0, h.grows.1, omega (arith, h.grows.2));
  easy = λ is. absurd (true≢false (sym is));
}

pub ahead_emits : (m : Meaning) → (negated : Bool) (p : Pattern) (e0 e1 e2 : Emitter) (next inner entry : Entry) → Emits m p e0 e1 stopping inner
    → PutsBoth (look_of negated false inner.moved next.moved) (look_of negated false inner.moved next.still) e1 e2 entry → Emits m (look_ahead negated p) e0 e2 next entry
unfolding nodes
ahead_emits m negated p e0 e1 e2 next inner entry body opening = record {
  means = λ later x. let all = then_both (λ later. Means m p later stopping inner) (4 * nodes p) _ _ e0 e1 e2 entry body.grows body.means opening later x in (inner, all.0, all.1);
  grows = (keeps_on _ _ _ body.grows.0 opening.kept, omega (arith, body.grows.1, opening.length), omega (arith, body.grows.2, opening.length));
  easy = λ is. absurd (true≢false (sym is));
}

pub behind_emits : (m : Meaning) → (negated : Bool) (p : Pattern) (e0 e1 e2 : Emitter) (next : Entry) (start : ℕ) (entry : Entry) → BehindEmitted m p (len_of e0) (emitted e1) start
    → Appends (4 * nodes p + 1) e0 e1 → PutsBoth (look_of negated true start next.moved) (look_of negated true start next.still) e1 e2 entry → Emits m (look_behind negated p) e0 e2 next entry
unfolding nodes
behind_emits m negated p e0 e1 e2 next start entry body grows opening = record {
  means = λ later x. let all = then_both (λ later. Behind m p (Means m p later stopping) later start) (4 * nodes p + 1) _ _ e0 e1 e2 entry grows body opening later x in (start, all.0, all.1);
  grows = (keeps_on _ _ _ grows.0 opening.kept, omega (arith, grows.1, opening.length), omega (arith, grows.2, opening.length));
  easy = λ is. absurd (true≢false (sym is));
}

-- the sizes of the parts from j on
pub sizes_from : (ts : List Tree) (n j : ℕ) (t : Tree) → j + 1 ≡ n → j < length ts → t ≡ get_or ts j t
    → sum_by nodes (map pattern_of (drop j ts)) ≡ nodes (pattern_of t) + sum_by nodes (map pattern_of (drop n ts))
sizes_from ts n j t e h same = ap (sum_by nodes) (parts_from ts n j t e h same) ∙ sum_by-cons nodes (pattern_of t) (map pattern_of (drop n ts))

pub branch_sizes : (p others all : Pattern) → all ≡ or_else p others → nodes all ≡ nodes p + 1 + nodes others
unfolding nodes
branch_sizes p others all e = ap nodes e

pub last_size : (p all : Pattern) → all ≡ last_branch p → nodes all ≡ nodes p + 1
unfolding nodes
last_size p all e = ap nodes e

-- of a sequence
sequence_means : (m : Meaning) → (p : Pattern) (ps : List Pattern) (code : List Instruction) (next mid entry : Entry) → Means m (in_sequence ps) code next mid → Means m p code mid entry → Means m (in_sequence (p ∷ ps)) code next entry
sequence_means m p [] code next mid entry a b = subst (λ (y : Entry). Means m p code y entry) a b
sequence_means m p (q ∷ ps) code next mid entry a b = (mid, a, b)

pub sequence_emitted : (m : Meaning) → (p : Pattern) (ps qs : List Pattern) → qs ≡ p ∷ ps → (from n : ℕ) (c1 c2 : List Instruction) (next mid entry : Entry)
    → Emitted m (in_sequence ps) from c1 next mid → Keeps c1 c2 → from ≤ n → Emitted m p n c2 mid entry → Emitted m (in_sequence qs) from c2 next entry
sequence_emitted m p ps qs e from n c1 c2 next mid entry a k le b =
    subst (λ (rs : List Pattern). Emitted m (in_sequence rs) from c2 next entry) (sym e)
    (λ later x. sequence_means m p ps later next mid entry
    (emitted_later (λ later. Means m (in_sequence ps) later next mid) c1 c2 from from k (omega arith) a later x)
    (emitted_later (λ later. Means m p later mid entry) c2 c2 from n (λ q i z h. h) le b later x))

-- one copy more
pub copies_emitted : (m : Meaning) → (p : Pattern) (count from n : ℕ) (c1 c2 : List Instruction) (next mid entry : Entry) → CopiesEmitted m count p from c1 next mid → Keeps c1 c2 → from ≤ n
    → Emitted m p n c2 mid entry → CopiesEmitted m (count + 1) p from c2 next entry
copies_emitted m p count from n c1 c2 next mid entry a k le b later x =
    rw add-one (
      mid,
      emitted_later (λ later. CopiesBy (Means m p later) count next mid) c1 c2 from from k (omega arith) a later x,
      emitted_later (λ later. Means m p later mid entry) c2 c2 from n (λ q i z h. h) le b later x,
    )

pub optionals_emitted : (m : Meaning) → (greedy : Bool) (p : Pattern) (count from n : ℕ) (c1 c2 c3 : List Instruction) (next mid body entry : Entry) → OptionalsEmitted m greedy count p from c1 next mid → Keeps c1 c2 → from ≤ n
    → Emitted m p n c2 mid body → Keeps c2 c3 → HasBoth c3 entry (split_of greedy body.moved next.moved) (split_of greedy body.still next.still) → from ≤ entry.moved → from ≤ entry.still
    → OptionalsEmitted m greedy (count + 1) p from c3 next entry
optionals_emitted m greedy p count from n c1 c2 c3 next mid body entry a k le b l has lm ls later x =
    rw add-one (
      mid,
      body,
      emitted_later (λ later. OptionalsBy (Means m p later) greedy later count next mid) c1 c3 from from (keeps_on c1 c2 c3 k l) (omega arith) a later x,
      emitted_later (λ later. Means m p later mid body) c2 c3 from n l le b later x,
      both_later c3 c3 from entry _ _ (λ q i z h. h) lm ls has later x,
    )

-- what follows the least number of turns, and then these
repeat_emitted : (m : Meaning) → (greedy : Bool) (low : ℕ) (high : Option ℕ) (p : Pattern) (from n : ℕ) (c1 c2 : List Instruction) (next mid entry : Entry) → RestEmitted m greedy low high p from c1 next mid
    → Keeps c1 c2 → from ≤ n → CopiesEmitted m low p n c2 mid entry → (later : List Instruction) → Extends from c2 later → RepeatBy (Means m p later) greedy later low high next entry
repeat_emitted m greedy low high p from n c1 c2 next mid entry a k le b later x = (
  mid,
  a later (λ q i z h. x q i z (k q i (omega arith) h)),
  emitted_later (λ later. CopiesBy (Means m p later) low mid entry) c2 c2 from n (λ q i z h. h) le b later x,
)

of_kind : (m : Meaning) → (greedy : Bool) (low : ℕ) (high : Option ℕ) (p : Pattern) (code : List Instruction) (next entry : Entry)
    → RepeatBy (Means m p code) greedy code low high next entry → Means m (repeat low high (kind_of greedy) p) code next entry
of_kind m true low high p code next entry by = by
of_kind m false low high p code next entry by = by

easy_body : (greedy : Bool) (low : ℕ) (high : Option ℕ) (p : Pattern) → is_easy (repeat low high (kind_of greedy) p) ≡ true → is_easy p ≡ true
easy_body true low high p is = is
easy_body false low high p is = is

pub repeat_emits : (m : Meaning) → (greedy : Bool) (low : ℕ) (high : Option ℕ) (p : Pattern) (most : ℕ) (e0 e1 e2 : Emitter) (next mid entry : Entry) → RestEmitted m greedy low high p (len_of e0) (emitted e1) next mid
    → Appends most e0 e1 → (is_easy p ≡ true → StaysEasy (emitted e0) (emitted e1)) → CopiesEmitted m low p (len_of e1) (emitted e2) mid entry → Appends (4 * (low * nodes p)) e1 e2
    → (is_easy p ≡ true → StaysEasy (emitted e1) (emitted e2)) → most + 4 * (low * nodes p) ≤ 4 * repeat_nodes low high (nodes p) → Emits m (repeat low high (kind_of greedy) p) e0 e2 next entry
unfolding nodes
repeat_emits m greedy low high p most e0 e1 e2 next mid entry rest k easy copies l easily few = record {
  means = λ later x. of_kind m greedy low high p later next entry (repeat_emitted m greedy low high p _ _ _ _ next mid entry rest l.0 k.1 copies later x);
  grows = (keeps_on _ _ _ k.0 l.0, omega (arith, k.1, l.1), omega (arith, k.2, l.2, few));
  easy = λ is h. easily (easy_body greedy low high p is) (easy (easy_body greedy low high p is) h);
}

-- of a branch of a look-behind: it goes back, or fails without a size
pub back_emitted : (m : Meaning) → (p : Pattern) (n : ℕ) → size m p ≡ Some n → (from : ℕ) (c2 c3 : List Instruction) (inner : Entry) (start : ℕ) → Emitted m p from c2 stopping inner → Keeps c2 c3
    → Has c3 start (i.Back n inner.moved) → from ≤ start → BackEmitted m p from c3 start
back_emitted m p n e from c2 c3 inner start body l has le later x =
    subst (λ (s : Option ℕ). BackBy s (Means m p later stopping) later start) (sym e)
    (inner, emitted_later (λ later. Means m p later stopping inner) c2 c3 from from l (omega arith) body later x, x start _ le has)

pub nowhere_emitted : (m : Meaning) → (p : Pattern) → size m p ≡ None → (from : ℕ) (code : List Instruction) → BackEmitted m p from code 1
nowhere_emitted m p e from code later x = subst (λ (s : Option ℕ). BackBy s (Means m p later stopping) later 1) (sym e) refl

-- the body of a look-behind: a sequence of one part is that part, and any other is one branch
pub only_part : (ts : List Tree) (t : Tree) → length ts ≡ 1 → t ≡ get_or ts 0 t → in_sequence (map pattern_of ts) ≡ pattern_of t
only_part [] t n e = absurd (omega arith)
only_part (u ∷ []) t n e = ap pattern_of (sym e)
only_part (u ∷ v ∷ ts) t n e = absurd (omega arith)

one_branch : (m : Meaning) → (ps : List Pattern) → (length ps ≡ 1 → ⊥) → (from : ℕ) (code : List Instruction) (start : ℕ) → BackEmitted m (in_sequence ps) from code start → BehindEmitted m (in_sequence ps) from code start
one_branch m [] apart from code start h = h
one_branch m (p ∷ []) apart from code start h = absurd (apart refl)
one_branch m (p ∷ q ∷ ps) apart from code start h = h

pub sequence_behind : (m : Meaning) → (all : Pattern) (ts : List Tree) → all ≡ in_sequence (map pattern_of ts) → (length ts ≡ 1 → ⊥) → (from : ℕ) (code : List Instruction) (start : ℕ)
    → BackEmitted m all from code start → BehindEmitted m all from code start
sequence_behind m all ts e apart from code start h =
    subst (λ (p : Pattern). BehindEmitted m p from code start) (sym e)
    (one_branch m (map pattern_of ts) (λ n. apart (sym (length-map ts pattern_of) ∙ n)) from code start (subst (λ (p : Pattern). BackEmitted m p from code start) e h))

pub last_behind : (m : Meaning) → (p all : Pattern) → all ≡ last_branch p → (from : ℕ) (code : List Instruction) (start : ℕ) → BackEmitted m p from code start → BehindEmitted m all from code start
last_behind m p all e from code start h = subst (λ (q : Pattern). BehindEmitted m q from code start) (sym e) h

-- of its branches: one was emitted after the others
pub behind_choice_emitted : (m : Meaning) → (p others all : Pattern) → all ≡ or_else p others → (from n : ℕ) (c1 c2 c3 : List Instruction) (one two start : ℕ)
    → BehindEmitted m others from c1 two → Keeps c1 c2 → from ≤ n → BackEmitted m p n c2 one → Keeps c2 c3 → Has c3 start (i.Split one two) → from ≤ start → BehindEmitted m all from c3 start
behind_choice_emitted m p others all e from n c1 c2 c3 one two start a k le b l has ls =
    subst (λ (q : Pattern). BehindEmitted m q from c3 start) (sym e)
    (λ later x. (
      one,
      two,
      emitted_later (λ later. BackBy (size m p) (Means m p later stopping) later one) c2 c3 from n l le b later x,
      emitted_later (λ later. Behind m others (Means m others later stopping) later two) c1 c3 from from (keeps_on c1 c2 c3 k l) (omega arith) a later x,
      x start _ ls has,
    ))

-- of a conditional whose branches are empty: it is an atomic group
pub empty_emits : (m : Meaning) → (p q r : Pattern) (before after : Emitter) (next entry : Entry) → (is_empty q && is_empty r) ≡ true → Emits m (atomic p) before after next entry
    → Emits m (conditional p q r) before after next entry
unfolding nodes
empty_emits m p q r before after next entry e h = record {
  means = λ later x.
      subst (λ (empty : Bool). EitherBy empty (AtomicBy (Means m p later) later next entry) (ConditionBy (Means m p later) (Means m q later next) (Means m r later next) later entry)) (sym e) (h.means later x);
  grows = (h.grows.0, h.grows.1, omega (arith, h.grows.2));
  easy = λ is. absurd (true≢false (sym is));
}

-- of a conditional: its branches, and then its condition
pub condition_emitted : (m : Meaning) → (p q r all : Pattern) → all ≡ conditional p q r → (is_empty q && is_empty r) ≡ false → (from n1 n2 : ℕ) (c1 c2 c3 : List Instruction) (next one two entry : Entry)
    → Emitted m q from c1 next one → Keeps c1 c2 → from ≤ n1 → Emitted m r n1 c2 next two → Keeps c2 c3 → from ≤ n2 → TestEmitted m p n2 c3 one two entry
    → Emitted m all from c3 next entry
condition_emitted m p q r all same e from n1 n2 c1 c2 c3 next one two entry a k le1 b l le2 test =
    subst (λ (y : Pattern). Emitted m y from c3 next entry) (sym same) (λ later x.
    let t = emitted_later (λ later. TestBy (Means m p later) later one two entry) c3 c3 from n2 (λ q i z h. h) le2 test later x in
    subst (λ (empty : Bool). EitherBy empty (AtomicBy (Means m p later) later next entry) (ConditionBy (Means m p later) (Means m q later next) (Means m r later next) later entry)) (sym e) (
      one,
      two,
      t.0,
      t.1,
      emitted_later (λ later. Means m q later next one) c1 c3 from from (keeps_on c1 c2 c3 k l) (omega arith) a later x,
      emitted_later (λ later. Means m r later next two) c2 c3 from n1 l le1 b later x,
      t.2,
      t.3,
      t.4,
    ))

-- the parts of a pattern of few nodes have few
pub few_in_parts : (t : Tree) (parts : Vec Tree Global) → t ≡ Concat parts → nodes (pattern_of t) < 2 ^ 64 → sum_by nodes (map pattern_of parts.items) < 2 ^ 64
few_in_parts t parts e small = omega (arith, ap nodes (ap pattern_of e ∙ pattern-Concat parts), nodes-in_sequence (map pattern_of parts.items))

pub few_in_branches : (t : Tree) (branches : Vec Tree Global) → t ≡ Alternation branches → nodes (pattern_of t) < 2 ^ 64 → nodes (in_choice (map pattern_of branches.items)) < 2 ^ 64
few_in_branches t branches e small = omega (arith, ap nodes (ap pattern_of e ∙ pattern-Alternation branches))

pub nodes-conditional : (p q r all : Pattern) → all ≡ conditional p q r → nodes all ≡ nodes p + nodes q + nodes r + 1
unfolding nodes
nodes-conditional p q r all e = ap nodes e

pub nodes_at : (ts : List Tree) (j : ℕ) (t : Tree) → j < length ts → t ≡ get_or ts j t → nodes (pattern_of t) ≤ sum_by nodes (map pattern_of ts)
nodes_at ts j t h e =
    let within : j < length (map pattern_of ts) = omega (arith, length-map ts pattern_of) in
    subst (λ (p : Pattern). nodes p ≤ sum_by nodes (map pattern_of ts)) (get_or-map pattern_of ts j t (pattern_of t) h ∙ ap pattern_of (sym e)) (get_or-le-sum_by nodes (map pattern_of ts) j (pattern_of t) within)

pub few_at : (ts : List Tree) (j : ℕ) (t : Tree) → sum_by nodes (map pattern_of ts) < 2 ^ 64 → j < length ts → t ≡ get_or ts j t → nodes (pattern_of t) < 2 ^ 64
few_at ts j t small h e = omega (arith, nodes_at ts j t h e)

pub few_in_branch : (ts : List Tree) (j : ℕ) (t : Tree) → nodes (in_choice (map pattern_of ts)) < 2 ^ 64 → j < length ts → t ≡ get_or ts j t → nodes (pattern_of t) < 2 ^ 64
few_in_branch ts j t small h e = omega (arith, nodes_at ts j t h e, nodes-in_choice (map pattern_of ts))

-- of a star: an instruction is reserved, the turn goes on there, and then it is written
pub star_emitted : (m : Meaning) → (greedy : Bool) (p : Pattern) (from n moved still : ℕ) (c2 c3 c4 : List Instruction) (next turn : Entry) → n ≡ moved + 1 → Emitted m p n c2 (record { moved = moved; still = 1 }) turn
    → c3 ≡ slice_set c2 moved (split_of greedy turn.still next.moved) → moved < length c2 → Keeps c3 c4 → Has c4 still (split_of greedy turn.still next.still) → from ≤ moved → from ≤ still
    → StarEmitted m greedy p from c4 next (record { moved = moved; still = still })
star_emitted m greedy p from n moved still c2 c3 c4 next turn en body e lt k has lm ls later x = (
  turn,
  emitted_set (λ later. Means m p later (record { moved = moved; still = 1 }) turn) c2 c3 c4 from moved (split_of greedy turn.still next.moved) e k lm
      (subst (λ (y : ℕ). Emitted m p y c2 (record { moved = moved; still = 1 }) turn) en body) later x,
  (has_set c2 c3 c4 from moved (split_of greedy turn.still next.moved) e lt k lm later x, x still _ ls has),
)

pub star_kept : (c0 c1 c2 c3 c4 : List Instruction) (moved : ℕ) (j : Instruction) → Keeps c0 c1 → Keeps c1 c2 → c3 ≡ slice_set c2 moved j → length c0 ≤ moved → Keeps c3 c4 → Keeps c0 c4
star_kept c0 c1 c2 c3 c4 moved j k l e le m =
    keeps_on c0 c3 c4 (subst (λ (c : List Instruction). Keeps c0 c) (sym e) (keeps_set c0 c2 moved j le (keeps_on c0 c1 c2 k l))) m
