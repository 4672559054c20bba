-- A pattern without `\K` moves no start.
use Rattle.std.proofs.Common.{◌≡◌, ℕ, Bool, true, false, ◌||◌, ◌&&◌, List, [], ◌∷◌, length, Option, Some, None, nat_le, is_some, sym, true≢false, refl}
use Rattle.fancy_tree.specs.Pattern.{Pattern, empty, character, member_of, in_any_case, raw_byte, backreference, assertion, group_test, keep_start, continue_here, group, repeat, look_ahead, look_behind, atomic, conditional, followed, or_else, last_branch}
use Rattle.fancy_tree.specs.Sizes.{size, is_empty}
use Rattle.fancy_meaning.specs.Context.{Context, State, moved_to, group_span, units_back, holds, continues, option_to}
use Rattle.fancy_meaning.specs.Events.{Event, return, Walk, stay, any, move, put_back, ends_look, looked}
use Rattle.fancy_meaning.specs.Trace.{trace, behind, from_before, is_greedy}
use Rattle.fancy_meaning.specs.Forward.{EachOutcome}
use Rattle.fancy_meaning.specs.Easy.{is_easy, goes_back}
use Rattle.fancy_meaning.specs.Placed.{has_keep_start, has_keep_start_in_look_around}
use Rattle.fancy_meaning.proofs.EventLemmas.{EachOutcome-bind, EachOutcome-either, EachOutcome-only_if, EachOutcome-guarded, EachOutcome-if}
use Rattle.fancy_meaning.proofs.ForwardLemmas.{LeadsOn-by_kind}
use Rattle.fancy_meaning.proofs.SearchLemmas.{and_parts}
use Rattle.fancy_meaning.proofs.WalkLemmas.{Retains, Retains-stay, Retains-holding, Retains-bind, Retains-repeated}

-- the match will have begun at k
abbrev pub KeptAt : ℕ → State → Type 0
KeptAt k s = s.kept ≡ k

KeptAt-move : (k limit : ℕ) (s : State) (past : Option ℕ) → KeptAt k s → EachOutcome (KeptAt k) (move limit s past)
KeptAt-move k limit s None h = tt
KeptAt-move k limit s (Some p) h = EachOutcome-only_if (KeptAt k) (nat_le p limit) _ (λ e. (h, tt))

KeptAt-looked : (k : ℕ) (negated behind : Bool) (s : State) (es : List Event) → KeptAt k s → EachOutcome (KeptAt k) es → EachOutcome (KeptAt k) (looked negated behind s es)
KeptAt-looked k true behind s es h all =
    EachOutcome-guarded (KeptAt k) (KeptAt k) (ends_look behind s.place) (λ t. []) (return ∷ stay s) es all (λ t u. tt) (h, tt)
KeptAt-looked k false behind s es h all =
    EachOutcome-guarded (KeptAt k) (KeptAt k) (ends_look behind s.place) (put_back s.place) [] es all (λ t u. (u, tt)) tt

pub either_fails : (a b : Bool) → (a || b) ≡ false → (a ≡ false) × (b ≡ false)
either_fails true b e = absurd (true≢false e)
either_fails false b e = (refl, e)

module _ (x : Context) (k : ℕ) where
  KeptAt-from_before : (n : Option ℕ) (walk : Walk) → Retains (KeptAt k) walk → Retains (KeptAt k) (from_before x n walk)
  KeptAt-from_before None walk f s h = tt
  KeptAt-from_before (Some n) walk f s h =
      elim (units_back x n s.place) as (λ (o : Option ℕ). EachOutcome (KeptAt k) (option_to o [] (λ p. walk (moved_to s p)))) [
        | None ↦ tt
        | Some p ↦ f (moved_to s p) h
      ]

  mutual
    unfolding trace behind

    -- each outcome of a pattern without it has the kept start that it began with
    pub kept_without : (limit : ℕ) (p : Pattern) → has_keep_start p ≡ false → Retains (KeptAt k) (trace x limit p)
    kept_without limit empty e s h = Retains-stay (KeptAt k) s h
    kept_without limit (character c) e s h = KeptAt-move k limit s _ h
    kept_without limit (member_of edges) e s h = KeptAt-move k limit s _ h
    kept_without limit (in_any_case edges) e s h = KeptAt-move k limit s _ h
    kept_without limit (raw_byte byte) e s h = KeptAt-move k limit s _ h
    kept_without limit (backreference folded number) e s h = KeptAt-move k limit s _ h
    kept_without limit (assertion a) e s h = Retains-holding (KeptAt k) (holds x a s.place) s h
    kept_without limit (group_test number) e s h = Retains-holding (KeptAt k) (is_some (group_span s number)) s h
    kept_without limit keep_start e s h = absurd (true≢false e)
    kept_without limit continue_here e s h = Retains-holding (KeptAt k) (continues x s.place) s h
    kept_without limit (group index body) e s h =
        EachOutcome-bind (KeptAt k) (KeptAt k) (trace x limit body s) _ (kept_without limit body e s h) (λ t b. (b, tt))
    kept_without limit (repeat low high kind body) e s h =
        LeadsOn-by_kind (KeptAt k) kind _
        (Retains-repeated (KeptAt k) (is_greedy kind) limit low high (trace x limit body) (kept_without limit body e) s h)
    kept_without limit (look_ahead negated body) e s h = KeptAt-looked k negated false s _ h (kept_without (length x.haystack) body e s h)
    kept_without limit (look_behind negated body) e s h = KeptAt-looked k negated true s _ h
        (kept_behind body e (trace x (length x.haystack) body) (kept_without (length x.haystack) body e) s h)
    kept_without limit (atomic body) e s h =
        EachOutcome-guarded (KeptAt k) (KeptAt k) any stay [] (trace x limit body s) (kept_without limit body e s h) (λ t b. (b, tt)) tt
    kept_without limit (conditional condition first second) e s h =
        let c = either_fails (has_keep_start condition) _ e in
        let b = either_fails (has_keep_start first) (has_keep_start second) c.1 in
        EachOutcome-if (KeptAt k) (is_empty first && is_empty second) _ _
        (EachOutcome-guarded (KeptAt k) (KeptAt k) any stay [] (trace x limit condition s) (kept_without limit condition c.0 s h) (λ t b. (b, tt)) tt)
        (EachOutcome-guarded (KeptAt k) (KeptAt k) any (trace x limit first) (return ∷ trace x limit second s) (trace x limit condition s)
        (kept_without limit condition c.0 s h) (kept_without limit first b.0) (kept_without limit second b.1 s h))
    kept_without limit (followed part rest) e s h =
        let both = either_fails (has_keep_start part) (has_keep_start rest) e in
        Retains-bind (KeptAt k) (trace x limit part) (trace x limit rest) (kept_without limit part both.0) (kept_without limit rest both.1) s h
    kept_without limit (or_else branch others) e s h =
        let both = either_fails (has_keep_start branch) (has_keep_start others) e in
        EachOutcome-either (KeptAt k) (trace x limit branch s) (trace x limit others s) (kept_without limit branch both.0 s h) (kept_without limit others both.1 s h)
    kept_without limit (last_branch branch) e s h = kept_without limit branch e s h

    pub kept_behind : (p : Pattern) → has_keep_start p ≡ false → (whole : Walk) → Retains (KeptAt k) whole → Retains (KeptAt k) (behind x p whole)
    kept_behind (or_else branch others) e whole f s h =
        let both = either_fails (has_keep_start branch) (has_keep_start others) e in
        EachOutcome-either (KeptAt k) (from_before x (size x.meaning branch) (trace x (length x.haystack) branch) s) (behind x others (trace x (length x.haystack) others) s)
        (KeptAt-from_before (size x.meaning branch) (trace x (length x.haystack) branch) (kept_without (length x.haystack) branch both.0) s h)
        (kept_behind others both.1 (trace x (length x.haystack) others) (kept_without (length x.haystack) others both.1) s h)
    kept_behind (last_branch branch) e whole f s h =
        KeptAt-from_before (size x.meaning branch) (trace x (length x.haystack) branch) (kept_without (length x.haystack) branch e) s h
    kept_behind empty e whole f s h = KeptAt-from_before (size x.meaning empty) whole f s h
    kept_behind (character c) e whole f s h = KeptAt-from_before (size x.meaning (character c)) whole f s h
    kept_behind (member_of edges) e whole f s h = KeptAt-from_before (size x.meaning (member_of edges)) whole f s h
    kept_behind (in_any_case edges) e whole f s h = KeptAt-from_before (size x.meaning (in_any_case edges)) whole f s h
    kept_behind (raw_byte byte) e whole f s h = KeptAt-from_before (size x.meaning (raw_byte byte)) whole f s h
    kept_behind (backreference folded number) e whole f s h = KeptAt-from_before (size x.meaning (backreference folded number)) whole f s h
    kept_behind (assertion a) e whole f s h = KeptAt-from_before (size x.meaning (assertion a)) whole f s h
    kept_behind (group_test number) e whole f s h = KeptAt-from_before (size x.meaning (group_test number)) whole f s h
    kept_behind keep_start e whole f s h = absurd (true≢false e)
    kept_behind continue_here e whole f s h = KeptAt-from_before (size x.meaning continue_here) whole f s h
    kept_behind (group index body) e whole f s h = KeptAt-from_before (size x.meaning (group index body)) whole f s h
    kept_behind (repeat low high kind body) e whole f s h = KeptAt-from_before (size x.meaning (repeat low high kind body)) whole f s h
    kept_behind (look_ahead negated body) e whole f s h = KeptAt-from_before (size x.meaning (look_ahead negated body)) whole f s h
    kept_behind (look_behind negated body) e whole f s h = KeptAt-from_before (size x.meaning (look_behind negated body)) whole f s h
    kept_behind (atomic body) e whole f s h = KeptAt-from_before (size x.meaning (atomic body)) whole f s h
    kept_behind (conditional a b c) e whole f s h = KeptAt-from_before (size x.meaning (conditional a b c)) whole f s h
    kept_behind (followed part rest) e whole f s h = KeptAt-from_before (size x.meaning (followed part rest)) whole f s h

neither : (a b : Bool) → a ≡ false → b ≡ false → (a || b) ≡ false
neither true b e f = e
neither false b e f = f

-- easy patterns have no `\K`
pub easy_keeps : (p : Pattern) → is_easy p ≡ true → has_keep_start p ≡ false
easy_keeps empty e = refl
easy_keeps (character c) e = refl
easy_keeps (member_of edges) e = refl
easy_keeps (in_any_case edges) e = refl
easy_keeps (raw_byte byte) e = refl
easy_keeps (backreference folded number) e = refl
easy_keeps (assertion a) e = refl
easy_keeps (group_test number) e = refl
easy_keeps keep_start e = absurd (true≢false (sym e))
easy_keeps continue_here e = refl
easy_keeps (group index body) e = easy_keeps body e
easy_keeps (repeat low high kind body) e = easy_keeps body (and_parts (goes_back kind) (is_easy body) e).1
easy_keeps (look_ahead negated body) e = absurd (true≢false (sym e))
easy_keeps (look_behind negated body) e = absurd (true≢false (sym e))
easy_keeps (atomic body) e = absurd (true≢false (sym e))
easy_keeps (conditional condition first second) e = absurd (true≢false (sym e))
easy_keeps (followed part rest) e =
    let both = and_parts (is_easy part) (is_easy rest) e in neither (has_keep_start part) (has_keep_start rest) (easy_keeps part both.0) (easy_keeps rest both.1)
easy_keeps (or_else branch others) e =
    let both = and_parts (is_easy branch) (is_easy others) e in neither (has_keep_start branch) (has_keep_start others) (easy_keeps branch both.0) (easy_keeps others both.1)
easy_keeps (last_branch branch) e = easy_keeps branch e

-- a pattern without `\K` has none in look-around
pub keeps_none_inside : (p : Pattern) → has_keep_start p ≡ false → has_keep_start_in_look_around p ≡ false
keeps_none_inside empty e = refl
keeps_none_inside (character c) e = refl
keeps_none_inside (member_of edges) e = refl
keeps_none_inside (in_any_case edges) e = refl
keeps_none_inside (raw_byte byte) e = refl
keeps_none_inside (backreference folded number) e = refl
keeps_none_inside (assertion a) e = refl
keeps_none_inside (group_test number) e = refl
keeps_none_inside keep_start e = refl
keeps_none_inside continue_here e = refl
keeps_none_inside (group index body) e = keeps_none_inside body e
keeps_none_inside (repeat low high kind body) e = keeps_none_inside body e
keeps_none_inside (look_ahead negated body) e = e
keeps_none_inside (look_behind negated body) e = e
keeps_none_inside (atomic body) e = keeps_none_inside body e
keeps_none_inside (conditional condition first second) e =
    let any = either_fails (has_keep_start condition) (has_keep_start first || has_keep_start second) e in
    let branch = either_fails (has_keep_start first) (has_keep_start second) any.1 in
    neither (has_keep_start_in_look_around condition) (has_keep_start_in_look_around first || has_keep_start_in_look_around second) (keeps_none_inside condition any.0)
    (neither (has_keep_start_in_look_around first) (has_keep_start_in_look_around second) (keeps_none_inside first branch.0) (keeps_none_inside second branch.1))
keeps_none_inside (followed part rest) e =
    let both = either_fails (has_keep_start part) (has_keep_start rest) e in
    neither (has_keep_start_in_look_around part) (has_keep_start_in_look_around rest) (keeps_none_inside part both.0) (keeps_none_inside rest both.1)
keeps_none_inside (or_else branch others) e =
    let both = either_fails (has_keep_start branch) (has_keep_start others) e in
    neither (has_keep_start_in_look_around branch) (has_keep_start_in_look_around others) (keeps_none_inside branch both.0) (keeps_none_inside others both.1)
keeps_none_inside (last_branch branch) e = keeps_none_inside branch e
