-- A pattern without `\K` in look-around moves the start forward, at most to its place.
use Rattle.std.proofs.Common.{◌≡◌, ℕ, Bool, true, false, ◌&&◌, List, [], ◌∷◌, length, Option, Some, None, nat_le, is_some, arith, le_refl, le_trans, refl}
use Rattle.fancy_tree.specs.Pattern.{Pattern, empty, character, member_of, in_any_case, raw_byte, backreference, assertion, group_test, keep_start, continue_here, group, repeat, look_ahead, look_behind, atomic, conditional, followed, or_else, last_branch}
use Rattle.fancy_tree.specs.Sizes.{is_empty}
use Rattle.fancy_meaning.specs.Context.{Context, State, group_span, holds, continues}
use Rattle.fancy_meaning.specs.Events.{Event, return, stay, any, move, put_back, ends_look, looked}
use Rattle.fancy_meaning.specs.Trace.{trace, is_greedy}
use Rattle.fancy_meaning.specs.Forward.{EachOutcome}
use Rattle.fancy_meaning.specs.Placed.{has_keep_start_in_look_around, IsKeptFrom}
use Rattle.fancy_meaning.proofs.EventLemmas.{EachOutcome-bind, EachOutcome-either, EachOutcome-only_if, EachOutcome-guarded, EachOutcome-if}
use Rattle.fancy_meaning.proofs.ForwardLemmas.{PastIs, past_item-past, past_byte-past, past_backreference-past, LeadsOn-by_kind}
use Rattle.fancy_meaning.proofs.KeptLemmas.{KeptAt, either_fails, kept_without, kept_behind}
use Rattle.fancy_meaning.proofs.WalkLemmas.{Retains, Retains-stay, Retains-holding, Retains-bind, Retains-repeated}

IsKeptFrom-move : (k limit : ℕ) (s : State) (past : Option ℕ) → IsKeptFrom k s → PastIs s.place past → EachOutcome (IsKeptFrom k) (move limit s past)
unfolding PastIs
IsKeptFrom-move k limit s None h on = tt
IsKeptFrom-move k limit s (Some p) h on =
    EachOutcome-only_if (IsKeptFrom k) (nat_le p limit) _ (λ e. (record { from = h.from; to = le_trans h.to on }, tt))

-- a look-around that moves no start comes back to where it began
IsKeptFrom-looked : (k : ℕ) (negated behind : Bool) (s : State) (es : List Event) → IsKeptFrom k s → EachOutcome (KeptAt s.kept) es →
    EachOutcome (IsKeptFrom k) (looked negated behind s es)
IsKeptFrom-looked k true behind s es h all =
    EachOutcome-guarded (KeptAt s.kept) (IsKeptFrom k) (ends_look behind s.place) (λ t. []) (return ∷ stay s) es all (λ t u. tt) (h, tt)
IsKeptFrom-looked k false behind s es h all =
    let from = h.from in
    let to = h.to in
    EachOutcome-guarded (KeptAt s.kept) (IsKeptFrom k) (ends_look behind s.place) (put_back s.place) [] es all
    (λ t u. (record { from = omega (arith, from, u); to = omega (arith, to, u) }, tt)) tt

module _ (x : Context) (k : ℕ) where
  -- each outcome has its kept start between k and its place
  pub kept_forward : (limit : ℕ) (p : Pattern) → has_keep_start_in_look_around p ≡ false → Retains (IsKeptFrom k) (trace x limit p)
  unfolding trace
  kept_forward limit empty e s h = Retains-stay (IsKeptFrom k) s h
  kept_forward limit (character c) e s h = IsKeptFrom-move k limit s _ h (past_item-past x _ s.place)
  kept_forward limit (member_of edges) e s h = IsKeptFrom-move k limit s _ h (past_item-past x _ s.place)
  kept_forward limit (in_any_case edges) e s h = IsKeptFrom-move k limit s _ h (past_item-past x _ s.place)
  kept_forward limit (raw_byte byte) e s h = IsKeptFrom-move k limit s _ h (past_byte-past x byte s.place)
  kept_forward limit (backreference folded number) e s h = IsKeptFrom-move k limit s _ h (past_backreference-past x folded number s)
  kept_forward limit (assertion a) e s h = Retains-holding (IsKeptFrom k) (holds x a s.place) s h
  kept_forward limit (group_test number) e s h = Retains-holding (IsKeptFrom k) (is_some (group_span s number)) s h
  kept_forward limit keep_start e s h = (record { from = le_trans h.from h.to; to = le_refl s.place }, tt)
  kept_forward limit continue_here e s h = Retains-holding (IsKeptFrom k) (continues x s.place) s h
  kept_forward limit (group index body) e s h =
      EachOutcome-bind (IsKeptFrom k) (IsKeptFrom k) (trace x limit body s) _ (kept_forward limit body e s h)
      (λ t b. (record { from = b.from; to = b.to }, tt))
  kept_forward limit (repeat low high kind body) e s h =
      LeadsOn-by_kind (IsKeptFrom k) kind _
      (Retains-repeated (IsKeptFrom k) (is_greedy kind) limit low high (trace x limit body) (kept_forward limit body e) s h)
  kept_forward limit (look_ahead negated body) e s h =
      IsKeptFrom-looked k negated false s _ h (kept_without x s.kept (length x.haystack) body e s refl)
  kept_forward limit (look_behind negated body) e s h =
      IsKeptFrom-looked k negated true s _ h
      (kept_behind x s.kept body e (trace x (length x.haystack) body) (kept_without x s.kept (length x.haystack) body e) s refl)
  kept_forward limit (atomic body) e s h =
      EachOutcome-guarded (IsKeptFrom k) (IsKeptFrom k) any stay [] (trace x limit body s) (kept_forward limit body e s h) (λ t b. (b, tt)) tt
  kept_forward limit (conditional condition first second) e s h =
      let c = either_fails (has_keep_start_in_look_around condition) _ e in
      let b = either_fails (has_keep_start_in_look_around first) (has_keep_start_in_look_around second) c.1 in
      let found = kept_forward limit condition c.0 s h in
      EachOutcome-if (IsKeptFrom k) (is_empty first && is_empty second) _ _
      (EachOutcome-guarded (IsKeptFrom k) (IsKeptFrom k) any stay [] (trace x limit condition s) found (λ t b. (b, tt)) tt)
      (EachOutcome-guarded (IsKeptFrom k) (IsKeptFrom k) any (trace x limit first) (return ∷ trace x limit second s) (trace x limit condition s)
      found (kept_forward limit first b.0) (kept_forward limit second b.1 s h))
  kept_forward limit (followed part rest) e s h =
      let both = either_fails (has_keep_start_in_look_around part) (has_keep_start_in_look_around rest) e in
      Retains-bind (IsKeptFrom k) (trace x limit part) (trace x limit rest) (kept_forward limit part both.0) (kept_forward limit rest both.1) s h
  kept_forward limit (or_else branch others) e s h =
      let both = either_fails (has_keep_start_in_look_around branch) (has_keep_start_in_look_around others) e in
      EachOutcome-either (IsKeptFrom k) (trace x limit branch s) (trace x limit others s)
      (kept_forward limit branch both.0 s h) (kept_forward limit others both.1 s h)
  kept_forward limit (last_branch branch) e s h = kept_forward limit branch e s h
