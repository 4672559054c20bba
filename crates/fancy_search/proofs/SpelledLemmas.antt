-- What holds of every pattern that a text spells: it moves no start inside of look-around, its sets are by rising edges, and it asks for no single bytes where matches keep to whole characters.
use Rattle.std.proofs.Common.{◌≡◌, ℕ, Bool, true, false, ◌||◌, List, [], ◌∷◌, map, Option, Some, None, refl, sym, ap, subst, ◌∙◌}
use Rattle.std.specs.Prelude.{encode_utf8}
use Rattle.fancy_tree.specs.declared.tree.Meaning.{Meaning}
use Rattle.fancy_tree.specs.declared.tree.Meaning.TheVariants.{Unicode, Bytes, AsciiText}
use Rattle.fancy_tree.specs.declared.tree.RepeatKind.{RepeatKind}
use Rattle.fancy_tree.specs.Text.{Text}
use Rattle.fancy_tree.specs.declared.tree.Assertion.{Assertion}
use Rattle.fancy_tree.specs.Sets.{AreEdges}
use Rattle.fancy_syntax.proofs.AtomLemmas as simple
use Rattle.fancy_syntax.proofs.AtomLemmas.{IsSimple, simple_atom}
use Rattle.fancy_syntax.specs.declared.groups.Grouping.{Grouping}
use Rattle.fancy_syntax.specs.declared.groups.Grouping.TheVariants.{Atomic, LookAhead, LookBehind}
use Rattle.fancy_tree.specs.Refers.{refers_to}
use Rattle.fancy_tree.specs.Pattern.{Pattern, empty, character, member_of, in_any_case, raw_byte, backreference, assertion, group_test, keep_start, continue_here, group, repeat, look_ahead, look_behind, atomic, conditional, followed, or_else, last_branch, in_sequence, in_choice, in_branches}
use Rattle.fancy_syntax.specs.Dialect.{Scope, inside, group_of, back_to, literal_of, Branches, one, either, Parts, nothing, item, Item, set, bare, quantified, Atom, single, plain, flagged, capture, unnamed, named, marked, reference, reference_by_name, tested, decided, conditional_of, Spells, DialectOptions, IsPattern, with_part}
use Rattle.fancy_meaning.specs.Placed.{has_raw_byte, has_keep_start, has_keep_start_in_look_around}

-- whether a place inside such a group, at a place inside of look-around or not, is inside of look-around
abbrev looks : Grouping → Bool → Bool
looks Atomic inside_look = inside_look
looks (LookAhead negated) inside_look = true
looks (LookBehind negated) inside_look = true

-- A property of patterns that the forms of the dialect keep. It may depend on whether the pattern stands inside of look-around.
record IsKept (keeps : Bool) (nice : Bool → Pattern → Type 0) : Type 0 where
  nothing_there : (l : Bool) → nice l empty
  sets : (l : Bool) (edges : List ℕ) → AreEdges edges → nice l (member_of edges)
  literals : (l : Bool) (edges : List ℕ) → AreEdges edges → nice l (in_any_case edges)
  bytes : (l : Bool) (byte : ℕ) → keeps ≡ false → nice l (raw_byte byte)
  characters : (l : Bool) (c : ℕ) → nice l (character c)
  assertions : (l : Bool) (a : Assertion) → nice l (assertion a)
  search_starts : (l : Bool) → nice l continue_here
  kept_starts : (l : Bool) → l ≡ false → nice l keep_start
  groups : (l : Bool) (index : ℕ) (p : Pattern) → nice l p → nice l (group index p)
  repeats : (l : Bool) (low : ℕ) (high : Option ℕ) (kind : RepeatKind) (p : Pattern) → nice l p → nice l (repeat low high kind p)
  references : (l : Bool) (folded : Bool) (number : ℕ) → nice l (backreference folded number)
  tests : (l : Bool) (number : ℕ) → nice l (group_test number)
  groupings : (l : Bool) (how : Grouping) (p : Pattern) → nice (looks how l) p → nice l (group_of how p)
  sequences : (l : Bool) (p q : Pattern) → nice l p → nice l q → nice l (followed p q)
  choices : (l : Bool) (p q : Pattern) → nice l p → nice l q → nice l (or_else p q)
  last : (l : Bool) (p : Pattern) → nice l p → nice l (last_branch p)
  conditionals : (l : Bool) (c p q : Pattern) → nice l c → nice l p → nice l q → nice l (conditional c p q)

module _ (keeps : Bool) (nice : Bool → Pattern → Type 0) (kept : IsKept keeps nice) where
  abbrev AreNice : Bool → List Pattern → Type 0
  AreNice l [] = Unit {0}
  AreNice l (p ∷ ps) = nice l p × AreNice l ps

  nice-in_sequence : (l : Bool) (ps : List Pattern) → AreNice l ps → nice l (in_sequence ps)
  nice-in_sequence l [] h = kept.nothing_there l
  nice-in_sequence l (p ∷ []) h = h.0
  nice-in_sequence l (p ∷ q ∷ ps) h = kept.sequences l p _ h.0 (nice-in_sequence l (q ∷ ps) h.1)

  nice-in_choice : (l : Bool) (p : Pattern) (ps : List Pattern) → AreNice l (p ∷ ps) → nice l (in_choice (p ∷ ps))
  nice-in_choice l p [] h = kept.last l p h.0
  nice-in_choice l p (q ∷ ps) h = kept.choices l p _ h.0 (nice-in_choice l q ps h.1)

  nice-in_branches : (l : Bool) (ps : List Pattern) → AreNice l ps → nice l (in_branches ps)
  nice-in_branches l [] h = kept.nothing_there l
  nice-in_branches l (p ∷ []) h = h.0
  nice-in_branches l (p ∷ q ∷ ps) h = nice-in_choice l p (q ∷ ps) h

  nice-chosen : (l : Bool) (c : Pattern) (bs : List Pattern) → nice l c → AreNice l bs → nice l (conditional_of c bs)
  nice-chosen l c [] h all = kept.conditionals l c empty empty h (kept.nothing_there l) (kept.nothing_there l)
  nice-chosen l c (b ∷ bs) h all = kept.conditionals l c b _ h all.0 (nice-in_branches l bs all.1)

  nice-characters : (l : Bool) (cs : List ℕ) → AreNice l (map character cs)
  nice-characters l [] = tt
  nice-characters l (c ∷ cs) = (kept.characters l c, nice-characters l cs)

  nice-literal_of : (l : Bool) (m : Meaning) (c : ℕ) → nice l (literal_of m c)
  nice-literal_of l Unicode c = kept.characters l c
  nice-literal_of l Bytes c = nice-in_sequence l (map character (encode_utf8 c)) (nice-characters l (encode_utf8 c))
  nice-literal_of l AsciiText c = kept.characters l c

  abbrev IsNiceItem : Bool → Option Pattern → Type 0
  IsNiceItem l None = Unit {0}
  IsNiceItem l (Some p) = nice l p

  nice-with_part : (l : Bool) (x : Option Pattern) (ps : List Pattern) → IsNiceItem l x → AreNice l ps → AreNice l (with_part x ps)
  nice-with_part l None ps h all = all
  nice-with_part l (Some p) ps h all = (h, all)

  -- a place that keeps to whole characters, or does not, and is inside of look-around, or is not
  record StandsIn (l : Bool) (s : Scope) : Type 0 where
    keeping : s.keeps_characters ≡ keeps
    looking : s.in_look_around ≡ l

  stands_inside : {l : Bool} (how : Grouping) {s : Scope} → StandsIn l s → StandsIn (looks how l) (inside how s)
  stands_inside Atomic e = e
  stands_inside (LookAhead negated) e = record { keeping = e.keeping; looking = refl }
  stands_inside (LookBehind negated) e = record { keeping = e.keeping; looking = refl }

  -- the place after a group
  stands_after : {l m : Bool} {s q : Scope} → StandsIn l s → StandsIn m q → StandsIn l (back_to s q)
  stands_after e f = record { keeping = f.keeping; looking = e.looking }

  -- the place after what changes neither
  stands_still : {l : Bool} {s q : Scope} → StandsIn l s → q.keeps_characters ≡ s.keeps_characters → q.in_look_around ≡ s.in_look_around → StandsIn l q
  stands_still e f g = record { keeping = f ∙ e.keeping; looking = g ∙ e.looking }

  nice-simple : {l : Bool} {s : Scope} {p : Pattern} → StandsIn l s → IsSimple s p → nice l p
  nice-simple {l} {s} e (simple.literal c) = nice-literal_of l s.meaning c
  nice-simple {l} e (simple.test a) = kept.assertions l a
  nice-simple {l} e (simple.item edges h) = kept.sets l edges h
  nice-simple {l} e (simple.any_case edges h) = kept.literals l edges h
  nice-simple {l} e (simple.byte c h) = kept.bytes l c (sym e.keeping ∙ h)
  nice-simple {l} e simple.search_start = kept.search_starts l
  nice-simple {l} e (simple.kept_start h) = kept.kept_starts l (sym e.looking ∙ h)

  -- all places of a pattern keep to whole characters, or none; those inside of look-around are so at any depth
  mutual
    nice-Branches : {l : Bool} {k : ℕ} {s r : Scope} {t after : Text} {bs : List Pattern} → StandsIn l s → Branches k s t after bs r → AreNice l bs × StandsIn l r
    nice-Branches {l} e (one parts) = let x = nice-Parts e parts in ((nice-in_sequence l _ x.0, tt), x.1)
    nice-Branches {l} e (either parts rest) = let x = nice-Parts e parts in let y = nice-Branches x.1 rest in ((nice-in_sequence l _ x.0, y.0), y.1)

    nice-Parts : {l : Bool} {k : ℕ} {s r : Scope} {t after : Text} {ps : List Pattern} → StandsIn l s → Parts k s t after ps r → AreNice l ps × StandsIn l r
    nice-Parts e (nothing skipped) = (tt, e)
    nice-Parts {l} e (item skipped first rest) = let x = nice-Item e first in let y = nice-Parts x.1 rest in (nice-with_part l _ _ x.0 y.0, y.1)

    nice-Item : {l : Bool} {k : ℕ} {s r : Scope} {t after : Text} {x : Option Pattern} → StandsIn l s → Item k s t after x r → IsNiceItem l x × StandsIn l r
    nice-Item e (set setting) = (tt, stands_still e refl refl)
    nice-Item e (bare atom h) = nice-Atom e atom
    nice-Item {l} e (quantified atom h skipped q) = let x = nice-Atom e atom in (kept.repeats l _ _ _ _ x.0, x.1)

    nice-Atom : {l : Bool} {k : ℕ} {s r : Scope} {t after : Text} {p : Pattern} → StandsIn l s → Atom k s t after p r → nice l p × StandsIn l r
    nice-Atom e (single skipped reads) = (nice-simple e (simple_atom reads), e)
    nice-Atom {l} e (plain branches) = let x = nice-Branches e branches in (nice-in_branches l _ x.0, stands_after e x.1)
    nice-Atom {l} e (flagged setting branches) = let x = nice-Branches (stands_still e refl refl) branches in (nice-in_branches l _ x.0, stands_after e x.1)
    nice-Atom {l} e (unnamed u h branches) = let x = nice-Branches e branches in (nice-in_branches l _ x.0, stands_after e x.1)
    nice-Atom {l} e (capture u h branches) = let x = nice-Branches (stands_still e refl refl) branches in (kept.groups l _ _ (nice-in_branches l _ x.0), stands_after e x.1)
    nice-Atom {l} e (marked {how = how} m branches) =
        let x = nice-Branches (stands_inside how e) branches in
        (kept.groupings l how _ (nice-in_branches (looks how l) _ x.0), stands_after e x.1)
    nice-Atom {l} e (reference h) = (kept.references l _ _, stands_still e refl refl)
    nice-Atom {l} e (reference_by_name n h) = (kept.references l _ _, stands_still e refl refl)
    nice-Atom {l} e (tested c h branches) = let x = nice-Branches (stands_still e refl refl) branches in (nice-chosen l _ _ (kept.tests l _) x.0, stands_after e x.1)
    nice-Atom {l} e (decided c h f condition branches) =
        let x = nice-Branches e condition in
        let y = nice-Branches (stands_after e x.1) branches in
        (nice-chosen l _ _ (nice-in_branches l _ x.0) y.0, stands_after e y.1)
    nice-Atom {l} e (named n m h branches) = let x = nice-Branches (stands_still e refl refl) branches in (kept.groups l _ _ (nice-in_branches l _ x.0), stands_after e x.1)

  nice_spelled : {l : Bool} {s e : Scope} {text : Text} {p : Pattern} → s.keeps_characters ≡ keeps → s.in_look_around ≡ l → Spells s text p e → nice l p
  nice_spelled {l} e f h = subst (nice l) (sym h.is) (nice-in_branches l h.branches (nice-Branches (record { keeping = e; looking = f }) h.spelled).0)

true_is_false : true ≡ false → ⊥
true_is_false h = cc

neither_holds : (a b : Bool) → a ≡ false → b ≡ false → (a || b) ≡ false
neither_holds true b e f = e
neither_holds false b e f = f

none_holds : (a b c : Bool) → a ≡ false → b ≡ false → c ≡ false → (a || (b || c)) ≡ false
none_holds a b c e f g = neither_holds a (b || c) e (neither_holds b c f g)

bytes_grouped : (how : Grouping) (p : Pattern) → has_raw_byte p ≡ false → has_raw_byte (group_of how p) ≡ false
bytes_grouped Atomic p e = e
bytes_grouped (LookAhead negated) p e = e
bytes_grouped (LookBehind negated) p e = e

-- no pattern that a text spells asks for a single byte, where matches keep to whole characters
pub no_raw_bytes : {s e : Scope} {text : Text} {p : Pattern} → s.keeps_characters ≡ true → Spells s text p e → has_raw_byte p ≡ false
no_raw_bytes k h =
    nice_spelled true (λ l p. has_raw_byte p ≡ false)
    (record {
      nothing_there = λ l. refl;
      sets = λ l edges e. refl;
      literals = λ l edges e. refl;
      bytes = λ l byte e. absurd (true_is_false e);
      characters = λ l c. refl;
      assertions = λ l a. refl;
      search_starts = λ l. refl;
      kept_starts = λ l e. refl;
      groups = λ l index p e. e;
      repeats = λ l low high kind p e. e;
      references = λ l folded number. refl;
      tests = λ l number. refl;
      groupings = λ l how p e. bytes_grouped how p e;
      sequences = λ l p q e f. neither_holds (has_raw_byte p) (has_raw_byte q) e f;
      choices = λ l p q e f. neither_holds (has_raw_byte p) (has_raw_byte q) e f;
      last = λ l p e. e;
      conditionals = λ l c p q e f g. none_holds (has_raw_byte c) (has_raw_byte p) (has_raw_byte q) e f g;
    })
    k refl h

-- The match's start is moved nowhere inside of look-around: in a pattern that stands there it is moved nowhere.
record KeepsStart (l : Bool) (p : Pattern) : Type 0 where
  below : has_keep_start_in_look_around p ≡ false
  anywhere : l ≡ true → has_keep_start p ≡ false

start_grouped : (l : Bool) (how : Grouping) (p : Pattern) → KeepsStart (looks how l) p → KeepsStart l (group_of how p)
start_grouped l Atomic p e = record { below = e.below; anywhere = e.anywhere }
start_grouped l (LookAhead negated) p e = record { below = e.anywhere refl; anywhere = λ h. e.anywhere refl }
start_grouped l (LookBehind negated) p e = record { below = e.anywhere refl; anywhere = λ h. e.anywhere refl }

-- no pattern that a text spells moves a match's start inside of look-around
start_spelled : {s e : Scope} {text : Text} {p : Pattern} → Spells s text p e → KeepsStart s.in_look_around p
start_spelled {s} h =
    nice_spelled s.keeps_characters KeepsStart
    (record {
      nothing_there = λ l. record { below = refl; anywhere = λ i. refl };
      sets = λ l edges e. record { below = refl; anywhere = λ i. refl };
      literals = λ l edges e. record { below = refl; anywhere = λ i. refl };
      bytes = λ l byte e. record { below = refl; anywhere = λ i. refl };
      characters = λ l c. record { below = refl; anywhere = λ i. refl };
      assertions = λ l a. record { below = refl; anywhere = λ i. refl };
      search_starts = λ l. record { below = refl; anywhere = λ i. refl };
      kept_starts = λ l e. record { below = refl; anywhere = λ i. absurd (true_is_false (sym i ∙ e)) };
      groups = λ l index p e. record { below = e.below; anywhere = e.anywhere };
      repeats = λ l low high kind p e. record { below = e.below; anywhere = e.anywhere };
      references = λ l folded number. record { below = refl; anywhere = λ i. refl };
      tests = λ l number. record { below = refl; anywhere = λ i. refl };
      groupings = start_grouped;
      sequences = λ l p q e f. record {
        below = neither_holds (has_keep_start_in_look_around p) (has_keep_start_in_look_around q) e.below f.below;
        anywhere = λ i. neither_holds (has_keep_start p) (has_keep_start q) (e.anywhere i) (f.anywhere i);
      };
      choices = λ l p q e f. record {
        below = neither_holds (has_keep_start_in_look_around p) (has_keep_start_in_look_around q) e.below f.below;
        anywhere = λ i. neither_holds (has_keep_start p) (has_keep_start q) (e.anywhere i) (f.anywhere i);
      };
      last = λ l p e. record { below = e.below; anywhere = e.anywhere };
      conditionals = λ l c p q e f g. record {
        below = none_holds (has_keep_start_in_look_around c) (has_keep_start_in_look_around p) (has_keep_start_in_look_around q) e.below f.below g.below;
        anywhere = λ i. none_holds (has_keep_start c) (has_keep_start p) (has_keep_start q) (e.anywhere i) (f.anywhere i) (g.anywhere i);
      };
    })
    refl refl h

-- Numbers of groups that are put in change none of this.
bytes-refers_to : (f : ℕ → ℕ) (p : Pattern) → has_raw_byte (refers_to f p) ≡ has_raw_byte p
unfolding refers_to
bytes-refers_to f empty = refl
bytes-refers_to f (character c) = refl
bytes-refers_to f (member_of edges) = refl
bytes-refers_to f (in_any_case edges) = refl
bytes-refers_to f (raw_byte byte) = refl
bytes-refers_to f (backreference folded number) = refl
bytes-refers_to f (assertion a) = refl
bytes-refers_to f (group_test number) = refl
bytes-refers_to f keep_start = refl
bytes-refers_to f continue_here = refl
bytes-refers_to f (group index body) = bytes-refers_to f body
bytes-refers_to f (repeat low high kind body) = bytes-refers_to f body
bytes-refers_to f (look_ahead negated body) = bytes-refers_to f body
bytes-refers_to f (look_behind negated body) = bytes-refers_to f body
bytes-refers_to f (atomic body) = bytes-refers_to f body
bytes-refers_to f (conditional condition first second) = rw (bytes-refers_to f condition, bytes-refers_to f first, bytes-refers_to f second) refl
bytes-refers_to f (followed part rest) = rw (bytes-refers_to f part, bytes-refers_to f rest) refl
bytes-refers_to f (or_else branch others) = rw (bytes-refers_to f branch, bytes-refers_to f others) refl
bytes-refers_to f (last_branch branch) = bytes-refers_to f branch

start-refers_to : (f : ℕ → ℕ) (p : Pattern) → has_keep_start (refers_to f p) ≡ has_keep_start p
unfolding refers_to
start-refers_to f empty = refl
start-refers_to f (character c) = refl
start-refers_to f (member_of edges) = refl
start-refers_to f (in_any_case edges) = refl
start-refers_to f (raw_byte byte) = refl
start-refers_to f (backreference folded number) = refl
start-refers_to f (assertion a) = refl
start-refers_to f (group_test number) = refl
start-refers_to f keep_start = refl
start-refers_to f continue_here = refl
start-refers_to f (group index body) = start-refers_to f body
start-refers_to f (repeat low high kind body) = start-refers_to f body
start-refers_to f (look_ahead negated body) = start-refers_to f body
start-refers_to f (look_behind negated body) = start-refers_to f body
start-refers_to f (atomic body) = start-refers_to f body
start-refers_to f (conditional condition first second) = rw (start-refers_to f condition, start-refers_to f first, start-refers_to f second) refl
start-refers_to f (followed part rest) = rw (start-refers_to f part, start-refers_to f rest) refl
start-refers_to f (or_else branch others) = rw (start-refers_to f branch, start-refers_to f others) refl
start-refers_to f (last_branch branch) = start-refers_to f branch

below-refers_to : (f : ℕ → ℕ) (p : Pattern) → has_keep_start_in_look_around (refers_to f p) ≡ has_keep_start_in_look_around p
unfolding refers_to
below-refers_to f empty = refl
below-refers_to f (character c) = refl
below-refers_to f (member_of edges) = refl
below-refers_to f (in_any_case edges) = refl
below-refers_to f (raw_byte byte) = refl
below-refers_to f (backreference folded number) = refl
below-refers_to f (assertion a) = refl
below-refers_to f (group_test number) = refl
below-refers_to f keep_start = refl
below-refers_to f continue_here = refl
below-refers_to f (group index body) = below-refers_to f body
below-refers_to f (repeat low high kind body) = below-refers_to f body
below-refers_to f (look_ahead negated body) = start-refers_to f body
below-refers_to f (look_behind negated body) = start-refers_to f body
below-refers_to f (atomic body) = below-refers_to f body
below-refers_to f (conditional condition first second) = rw (below-refers_to f condition, below-refers_to f first, below-refers_to f second) refl
below-refers_to f (followed part rest) = rw (below-refers_to f part, below-refers_to f rest) refl
below-refers_to f (or_else branch others) = rw (below-refers_to f branch, below-refers_to f others) refl
below-refers_to f (last_branch branch) = below-refers_to f branch

-- what the dialect accepts
pub bytes_accepted : {o : DialectOptions} {text : Text} {p : Pattern} → o.keeps_characters ≡ true → IsPattern o text p → has_raw_byte p ≡ false
bytes_accepted e h = ap has_raw_byte h.is ∙ (bytes-refers_to _ h.written ∙ no_raw_bytes e h.spelled.spelled)

-- no `\K` stands inside of look-around
pub kept_accepted : {o : DialectOptions} {text : Text} {p : Pattern} → IsPattern o text p → has_keep_start_in_look_around p ≡ false
kept_accepted h = ap has_keep_start_in_look_around h.is ∙ (below-refers_to _ h.written ∙ (start_spelled h.spelled.spelled).below)
