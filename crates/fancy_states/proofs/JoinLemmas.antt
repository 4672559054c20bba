-- A step joined from two.
use Rattle.std.proofs.Common.{◌≡◌, ℕ, zero, suc, ◌+◌, ◌≤◌, ◌⊎◌, inl, inr, Bool, true, false, List, [], ◌∷◌, ◌++◌, Option, Some, None, refl, sym, ap, ap₂, ◌∙◌, subst, arith, length, map, take, replicate, append_assoc, get_or, ◌<◌}
use Rattle.std.proofs.lemmas.List.{append-nil, take_all, take_more}
use Rattle.std.specs.Prelude.{slice_index_or, is_some}
use Rattle.std.specs.Option.{option_or}
use Rattle.std.proofs.lemmas.Bool.{true≢false}
use Rattle.fancy_code.specs.Instructions.{Instruction}
use Rattle.fancy_states.specs.declared.way.Way.{Way}
use Rattle.fancy_states.specs.Ways.{Ends, AllKnown, first_end, match_end, tagged, way_end}
use Rattle.fancy_alphabet.specs.Effects.{Seen}
use Rattle.fancy_states.specs.Steps.{IsStep, waiting, at_of}
use Rattle.fancy_states.specs.Joins.{Thinned, all_from, match_from}
use Rattle.fancy_states.proofs.ClosingLemmas.{first_append}

pub no_ways : (ws : List Way) → length ws ≡ 0 → ws ≡ []
no_ways [] e = refl
no_ways (w ∷ ws) e = absurd (omega (arith, e))

-- as many ways as instructions
pub length-all_from : (n : ℕ) (qs : List ℕ) → length (all_from n qs) ≡ length qs
length-all_from n [] = refl
length-all_from n (q ∷ qs) = ap suc (length-all_from n qs)

or_none : (o : Option (ℕ × ℕ)) → option_or o None ≡ o
or_none None = refl
or_none (Some x) = refl

or_assoc : (a b c : Option (ℕ × ℕ)) → option_or (option_or a b) c ≡ option_or a (option_or b c)
or_assoc None b c = refl
or_assoc (Some x) b c = refl

or_left_none : (a b : Option (ℕ × ℕ)) → option_or a b ≡ None → a ≡ None
or_left_none None b e = refl
or_left_none (Some x) b e = e

or_right_none : (a b : Option (ℕ × ℕ)) → option_or a b ≡ None → b ≡ None
or_right_none None b e = e
or_right_none (Some x) b e = cc

-- what is not preferred to an end does not count
or_stays : (a b c : Option (ℕ × ℕ)) → is_some b ≡ true → option_or (option_or a b) c ≡ option_or a b
or_stays None None c e = absurd (true≢false (sym e))
or_stays None (Some x) c e = refl
or_stays (Some x) b c e = refl

untagged : (f : ℕ) (o : Option ℕ) → tagged f o ≡ None → o ≡ None
untagged f None e = refl
untagged f (Some x) e = cc

first_one : (ends : Ends) (a : List Way) (w : Way) → first_end ends (a ++ w ∷ []) ≡ option_or (first_end ends a) (way_end ends w)
first_one ends a w = first_append ends a (w ∷ []) ∙ ap (option_or (first_end ends a)) (or_none (way_end ends w))

pub known_both : (known : ℕ → Bool) (a b : List Way) → AllKnown known a → AllKnown known b → AllKnown known (a ++ b)
known_both known [] b f g = g
known_both known (w ∷ a) b f g = (f.0, known_both known a b f.1 g)

known_left : (known : ℕ → Bool) (a b : List Way) → AllKnown known (a ++ b) → AllKnown known a
known_left known [] b f = tt
known_left known (w ∷ a) b f = (f.0, known_left known a b f.1)

known_right : (known : ℕ → Bool) (a b : List Way) → AllKnown known (a ++ b) → AllKnown known b
known_right known [] b f = f
known_right known (w ∷ a) b f = known_right known a b f.1

-- nothing is thinned yet
pub thin_none : (n : ℕ) (marks : List Bool) (next : List Way) → marks ≡ replicate n false → next ≡ [] → Thinned marks [] next
thin_none n marks next clear fresh = record {
  same = λ later. ap (first_end later) fresh;
  known = λ beyond k. subst (AllKnown beyond) (sym fresh) tt;
  covers = λ later q seen out. absurd (unmarked n q (subst (λ (x : List Bool). slice_index_or x q false ≡ true) clear seen));
} where
  unmarked : (n q : ℕ) → slice_index_or (replicate n false) q false ≡ true → ⊥
  unmarked zero q h = true≢false (sym h)
  unmarked (suc n) zero h = true≢false (sym h)
  unmarked (suc n) (suc q) h = unmarked n q h

-- a way that was met before is left out
pub thin_seen : (marks : List Bool) (whole next : List Way) (w : Way) → slice_index_or marks w.at false ≡ true → Thinned marks whole next → Thinned marks (whole ++ w ∷ []) next
thin_seen marks whole next w seen t = record {
  same = λ later. by later (first_end later next) refl ∙ sym (first_one later whole w);
  known = λ beyond k. t.known beyond (known_left beyond whole (w ∷ []) k);
  covers = t.covers;
} where
  by : (later : Ends) (o : Option (ℕ × ℕ)) → first_end later next ≡ o → first_end later next ≡ option_or (first_end later whole) (way_end later w)
  by later None e = e ∙ sym (ap₂ option_or (sym (t.same later) ∙ e) (ap (tagged w.from) (t.covers later w.at seen e)))
  by later (Some x) e = e ∙ sym (ap (λ (o : Option (ℕ × ℕ)). option_or o (way_end later w)) (sym (t.same later) ∙ e))

-- a way is appended
pub thin_more : (marks more : List Bool) (whole next : List Way) (w : Way)
    → ((q : ℕ) → slice_index_or more q false ≡ true → (slice_index_or marks q false ≡ true) ⊎ (q ≡ w.at))
    → Thinned marks whole next → Thinned more (whole ++ w ∷ []) (next ++ w ∷ [])
thin_more marks more whole next w adds t = record {
  same = λ later. first_one later next w ∙ ap (λ (o : Option (ℕ × ℕ)). option_or o (way_end later w)) (t.same later) ∙ sym (first_one later whole w);
  known = λ beyond k. known_both beyond next (w ∷ []) (t.known beyond (known_left beyond whole (w ∷ []) k)) (known_right beyond whole (w ∷ []) k);
  covers = λ later q seen out.
      (let both : option_or (first_end later next) (way_end later w) ≡ None = sym (first_one later next w) ∙ out in
      elim (adds q seen) [
        | inl old ↦ t.covers later q old (or_left_none (first_end later next) (way_end later w) both)
        | inr same ↦ ap later same ∙ untagged w.from (later w.at) (or_right_none (first_end later next) (way_end later w) both)
      ]);
}

-- the same end, of the way with this number
abbrev renumbered : ℕ → Option (ℕ × ℕ) → Option (ℕ × ℕ)
renumbered n None = None
renumbered n (Some (from, e)) = Some (n, e)

renumbered_or : (n : ℕ) (a b : Option (ℕ × ℕ)) → renumbered n (option_or a b) ≡ option_or (renumbered n a) (renumbered n b)
renumbered_or n None b = refl
renumbered_or n (Some (from, e)) b = refl

renumbered_tagged : (n f : ℕ) (o : Option ℕ) → renumbered n (tagged f o) ≡ tagged n o
renumbered_tagged n f None = refl
renumbered_tagged n f (Some e) = refl

renumbered_match : (n : ℕ) (matched : Option ℕ) (here : ℕ) → match_end (match_from n matched) here ≡ renumbered n (match_end matched here)
renumbered_match n None here = refl
renumbered_match n (Some from) here = refl

renumbered_ways : (n : ℕ) (later : Ends) (after : List Way) → first_end later (all_from n (map at_of after)) ≡ renumbered n (first_end later after)
renumbered_ways n later [] = refl
renumbered_ways n later (w ∷ ws) =
    ap₂ option_or (sym (renumbered_tagged n w.from (later w.at))) (renumbered_ways n later ws)
    ∙ sym (renumbered_or n (way_end later w) (first_end later ws))

known_from : (n : ℕ) (beyond : ℕ → Bool) (after : List Way) → AllKnown beyond after → AllKnown beyond (all_from n (map at_of after))
known_from n beyond [] k = tt
known_from n beyond (w ∷ ws) k = (k.0, known_from n beyond ws k.1)

one_waits : (m : ℕ) (ways : List ℕ) (q n : ℕ) → n ≡ m + length ways → waiting m (ways ++ q ∷ []) ≡ waiting m ways ++ record { at = q; from = n } ∷ []
one_waits m [] q n e = ap (λ (k : ℕ). record { at = q; from = k } ∷ []) (let same : m ≡ n = omega (arith, e) in same)
one_waits m (p ∷ ways) q n e = ap (λ (ws : List Way). record { at = p; from = m } ∷ ws) (one_waits (suc m) ways q n (omega (arith, e)))

module _ (code : List Instruction) (ways : List ℕ) (q : ℕ) (u : Seen) (first : List Way) where
  -- where one of the first ways ended with an outcome, the way that begins does not count
  pub step_hidden : (matched : Option ℕ) → is_some matched ≡ true → IsStep code ways u first matched → IsStep code (ways ++ q ∷ []) u first matched
  step_hidden matched some step here ends later known beyond rank solves all =
      let w : Way = record { at = q; from = length ways } in
      let split : waiting 0 (ways ++ q ∷ []) ≡ waiting 0 ways ++ w ∷ [] = one_waits 0 ways q (length ways) (omega arith) in
      let s = step here ends later known beyond rank solves (known_left known (waiting 0 ways) (w ∷ []) (subst (AllKnown known) split all)) in
      let F = first_end later first in
      let M = match_end matched here in (
        s.0,
        sym (ap (first_end ends) split ∙ first_append ends (waiting 0 ways) (w ∷ [])
            ∙ ap (λ (o : Option (ℕ × ℕ)). option_or o (first_end ends (w ∷ []))) (sym s.1)
            ∙ or_stays F M (first_end ends (w ∷ [])) (ended matched some)),
      ) where
        ended : (m : Option ℕ) → is_some m ≡ true → is_some (match_end m here) ≡ true
        ended None e = absurd (true≢false (sym e))
        ended (Some from) e = refl

  -- else the ways after both go on, but for those that were met before
  pub step_joined : (matched matched₂ : Option ℕ) (after next : List Way) (marks : List Bool) → is_some matched ≡ false → IsStep code ways u first matched
      → IsStep code (q ∷ []) u after matched₂ → Thinned marks (first ++ all_from (length ways) (map at_of after)) next
      → IsStep code (ways ++ q ∷ []) u next (match_from (length ways) matched₂)
  step_joined matched matched₂ after next marks none step begun thin here ends later known beyond rank solves all =
      let n = length ways in
      let w : Way = record { at = q; from = n } in
      let split : waiting 0 (ways ++ q ∷ []) ≡ waiting 0 ways ++ w ∷ [] = one_waits 0 ways q n (omega arith) in
      let both = subst (AllKnown known) split all in
      let s = step here ends later known beyond rank solves (known_left known (waiting 0 ways) (w ∷ []) both) in
      let b = begun here ends later known beyond rank solves (known_right known (waiting 0 ways) (w ∷ []) both) in
      let F = first_end later first in
      let B = first_end later (all_from n (map at_of after)) in
      let M = match_end (match_from n matched₂) here in
      let F_is : F ≡ first_end ends (waiting 0 ways) = sym (or_none F) ∙ sym (ap (option_or F) (unmatched matched none)) ∙ s.1 in
      let B_is : option_or B M ≡ first_end ends (w ∷ []) =
      ap₂ option_or (renumbered_ways n later after) (renumbered_match n matched₂ here)
      ∙ sym (renumbered_or n (first_end later after) (match_end matched₂ here)) ∙ ap (renumbered n) b.1
      ∙ renumbered_or n (tagged 0 (ends q)) None ∙ ap (λ (o : Option (ℕ × ℕ)). option_or o None) (renumbered_tagged n 0 (ends q)) in (
        thin.known beyond (known_both beyond first (all_from n (map at_of after)) s.0 (known_from n beyond after b.0)),
        ap (λ (o : Option (ℕ × ℕ)). option_or o M) (thin.same later ∙ first_append later first (all_from n (map at_of after)))
            ∙ or_assoc F B M ∙ ap₂ option_or F_is B_is
            ∙ sym (first_append ends (waiting 0 ways) (w ∷ [])) ∙ sym (ap (first_end ends) split),
      ) where
        unmatched : (m : Option ℕ) → is_some m ≡ false → match_end m here ≡ None
        unmatched None e = refl
        unmatched (Some from) e = absurd (true≢false e)

all_more : (n : ℕ) (xs : List ℕ) (q : ℕ) → all_from n (xs ++ q ∷ []) ≡ all_from n xs ++ record { at = q; from = n } ∷ []
all_more n [] q = refl
all_more n (x ∷ xs) q = ap (λ (ws : List Way). record { at = x; from = n } ∷ ws) (all_more n xs q)

module _ (marks : List Bool) (whole next : List Way) where
  -- one of the ways more
  pub thin_next : (ways : List Way) (i : ℕ) (d : Way) → i < length ways → Thinned marks ((whole ++ take i ways) ++ get_or ways i d ∷ []) next
      → Thinned marks (whole ++ take (i + 1) ways) next
  thin_next ways i d lt t =
      subst (λ (ws : List Way). Thinned marks ws next)
      (append_assoc whole (take i ways) (get_or ways i d ∷ []) ∙ ap (λ (ws : List Way). whole ++ ws) (sym (take_more ways i d lt))) t

  pub thin_next_from : (n : ℕ) (ats : List ℕ) (i d : ℕ) → i < length ats → Thinned marks ((whole ++ all_from n (take i ats)) ++ record { at = get_or ats i d; from = n } ∷ []) next
      → Thinned marks (whole ++ all_from n (take (i + 1) ats)) next
  thin_next_from n ats i d lt t =
      subst (λ (ws : List Way). Thinned marks ws next)
      (append_assoc whole (all_from n (take i ats)) (record { at = get_or ats i d; from = n } ∷ [])
      ∙ ap (λ (ws : List Way). whole ++ ws) (sym (ap (all_from n) (take_more ats i d lt) ∙ all_more n (take i ats) (get_or ats i d)))) t

  pub thin_begin : Thinned marks whole next → Thinned marks (whole ++ []) next
  thin_begin t = subst (λ (ws : List Way). Thinned marks ws next) (sym (append-nil whole)) t

  pub thin_all : (ways : List Way) (n : ℕ) → length ways ≤ n → Thinned marks (whole ++ take n ways) next → Thinned marks (whole ++ ways) next
  thin_all ways n le t = subst (λ (ws : List Way). Thinned marks (whole ++ ws) next) (take_all n ways le) t

  pub thin_all_from : (f : ℕ) (ats : List ℕ) (n : ℕ) → length ats ≤ n → Thinned marks (whole ++ all_from f (take n ats)) next → Thinned marks (whole ++ all_from f ats) next
  thin_all_from f ats n le t = subst (λ (qs : List ℕ). Thinned marks (whole ++ all_from f qs) next) (take_all n ats le) t
