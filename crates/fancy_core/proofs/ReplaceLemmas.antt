-- Lemmas on replacing matches one after the other.
use Rattle.std.proofs.Common.{arith, ℕ, zero, suc, ◌-◌, ◌<◌, ◌≡◌, Bool, true, false, List, [], ◌∷◌, ◌++◌, Option, None, Some, Result, Ok, Err, IfOk, length, map, slice_range, refl, sym, ◌∙◌, ap, subst, append-nil, append_assoc, inl, inr}
use Rattle.std.specs.Prelude.{MatchBool, ◌↔◌, ◌⊎◌, ◌==◌}
use Rattle.std.proofs.lemmas.Bool.Decides.{nat_tests}
use Rattle.std.proofs.lemmas.List.{map-append, length-append}
use Rattle.fancy_tree.specs.declared.error.Error.{Error}
use Rattle.fancy_tree.specs.declared.error.Error.TheVariants.{Memory}
use Rattle.fancy_input.specs.declared.span.Span.{Span}
use Rattle.fancy_core.specs.declared.regex.Regex.{Regex}
use Rattle.fancy_core.specs.GroupTexts.{Seen}
use Rattle.fancy_search.specs.MatchList.{MatchItem, span_of_item, start_of, stop_of}
use Rattle.fancy_core.specs.Pieces.{pieces, interleaved, limited}
use Rattle.fancy_core.specs.Replacing.{Replacing, replacing, matches_taken, Answers, AnswersOf, IsReplaced, AllowsOneMore, IsRefusedFrom, IsRefusedAfterSome, IsRefusedBetweenCalls, IsRefusedByReplacer, all_matches, first_matches, end_of, replaced, text_with_each, seen_of}
use Rattle.fancy_core.specs.ItemLimits.{up_to, limit_of, is_reached, one_fewer}
use Rattle.fancy_core.proofs.PieceLemmas.{whole_of}

-- after one item more the last of them ends
end_of_more : (x : MatchItem) (xs : List MatchItem) → end_of (xs ++ (x ∷ [])) ≡ stop_of x
end_of_more x [] = refl
end_of_more x (y ∷ []) = refl
end_of_more x (y ∷ (z ∷ zs)) = end_of_more x (z ∷ zs)

no_end : {A : Type 0} (xs : List A) (x : A) → xs ++ (x ∷ []) ≡ [] → ⊥
no_end [] x e = absurd (cc)
no_end (y ∷ xs) x e = absurd (cc)

limited_nil : {A : Type 0} (n : ℕ) → limited {A = A} n [] ≡ []
limited_nil zero = refl
limited_nil (suc n) = refl

limited_none : {A : Type 0} (n : ℕ) (xs : List A) → limited n xs ≡ [] → xs ≡ []
limited_none zero xs e = e
limited_none (suc n) [] e = refl
limited_none (suc n) (x ∷ xs) e = absurd (cc)

pub or_else : (P Q W : Type 0) → (Q → W) → P ⊎ Q → P ⊎ W
or_else P Q W f (inl p) = inl p
or_else P Q W f (inr q) = inr (f q)

-- how many more may be replaced after so many
abbrev pub fewer_by : ℕ → Option ℕ → Option ℕ
fewer_by n None = None
fewer_by n (Some m) = Some (m - n)

fewer_by_none : (left : Option ℕ) → left ≡ fewer_by 0 left
fewer_by_none None = refl
fewer_by_none (Some m) = let q : m - 0 ≡ m = omega arith in rw q refl

fewer_by_more : (n : ℕ) (left : Option ℕ) → one_fewer (fewer_by n left) ≡ fewer_by (suc n) left
fewer_by_more n None = refl
fewer_by_more n (Some m) = let q : (m - n) - 1 ≡ m - suc n = omega arith in rw q refl

-- where the limit is not reached, one more may be replaced
leaves_room : (limit : ℕ) (left : Option ℕ) (done : List MatchItem) → left ≡ fewer_by (length done) (limit_of limit) → is_reached left ≡ false → AllowsOneMore limit done
leaves_room zero left done e r = inl refl
leaves_room (suc n) left done e r =
    let some : ((suc n - length done) == 0) ≡ false = rw e at r in
    inr (grind (arith, nat_tests))

-- How far a replacement has come in the matches that it takes. The state `first` answered to those that are done and left the state
-- `now`. Whatever answers to those that are left come, with the answers so far they make up `out` and then the rest from `at` on. As
-- many may still be replaced as are `left`.
pub record Goes {R : Type 0} (k : Replacing R) (first now : R) (out : List ℕ) (at : ℕ) (found : Bool) (left : Option ℕ) (todo : List MatchItem) : Type 0 where
  pub done : List MatchItem
  pub order : matches_taken k ≡ done ++ todo
  pub answers : List (List ℕ)
  pub given : Answers k.appends first (map (seen_of k.regex k.text) done) answers now
  pub joined : (more : List (List ℕ)) → replaced k.text (matches_taken k) (answers ++ more) ≡ out ++ interleaved (pieces k.text at (map span_of_item todo)) more
  pub ended : at ≡ end_of done
  pub none : found ≡ false → done ≡ []
  pub some : found ≡ true → done ≡ [] → ⊥
  pub counted : left ≡ fewer_by (length done) (limit_of k.limit)

regroup : (a b c d : List ℕ) → a ++ (b ++ (c ++ d)) ≡ ((a ++ b) ++ c) ++ d
regroup a b c d = simp append_assoc

module _ {R : Type 0} (gave : R → Seen → List ℕ → R → Type 0) where
  -- one answer more
  answers_more : (first now next : R) (x : Seen) (a : List ℕ) (xs : List Seen) (answers : List (List ℕ)) → Answers gave first xs answers now → gave now x a next → Answers gave first (xs ++ (x ∷ [])) (answers ++ (a ∷ [])) next
  answers_more first now next x a [] [] h g = (next, subst (λ (z : R). gave z x a next) (sym h) g, refl)
  answers_more first now next x a [] (b ∷ answers) h g = absurd h
  answers_more first now next x a (y ∷ xs) [] h g = absurd h
  answers_more first now next x a (y ∷ xs) (b ∷ answers) (middle, here, after) g = (middle, here, answers_more middle now next x a xs answers after g)

  -- with no match nothing is called
  answers_to_none : (first now : R) (answers : List (List ℕ)) → Answers gave first [] answers now → first ≡ now
  answers_to_none first now [] h = h
  answers_to_none first now (a ∷ answers) h = absurd h

module _ {R : Type 0} (k : Replacing R) where
  pub goes_first : (todo : List MatchItem) (r : R) (out : List ℕ) (at : ℕ) (found : Bool) (left : Option ℕ) → todo ≡ matches_taken k → out ≡ [] → at ≡ 0 → found ≡ false → left ≡ limit_of k.limit → Goes k r r out at found left todo
  goes_first todo r out at found left e f g h l = rw (e, f, g, h, l) (record {
    done = [];
    order = refl;
    answers = [];
    given = refl;
    joined = λ more. refl;
    ended = refl;
    none = λ _. refl;
    some = λ (w : false ≡ true) _. absurd (cc);
    counted = fewer_by_none (limit_of k.limit);
  })

  pub goes_on : (first now next : R) (out more : List ℕ) (at end : ℕ) (found found_one : Bool) (left left_now : Option ℕ) (x : MatchItem) (todo rest : List MatchItem) (seen : Seen) (a : List ℕ) → todo ≡ x ∷ rest → seen ≡ seen_of k.regex k.text x → k.appends now seen a next → more ≡ (out ++ slice_range k.text at (start_of x)) ++ a → end ≡ stop_of x → found_one ≡ true → left_now ≡ one_fewer left
      → Goes k first now out at found left todo → Goes k first next more end found_one left_now rest
  goes_on first now next out more at end found found_one left left_now x todo rest seen a e s g m f i l h = record {
    done = h.done ++ (x ∷ []);
    order = h.order ∙ (ap (λ (z : List MatchItem). h.done ++ z) e ∙ sym (append_assoc h.done (x ∷ []) rest));
    answers = h.answers ++ (a ∷ []);
    given =
        let step : k.appends now (seen_of k.regex k.text x) a next = subst (λ (z : Seen). k.appends now z a next) s g in
        rw (map-append (seen_of k.regex k.text) h.done (x ∷ [])) (answers_more k.appends first now next (seen_of k.regex k.text x) a (map (seen_of k.regex k.text) h.done) h.answers h.given step);
    joined = λ others.
        let all = matches_taken k in
        let tail : List ℕ = interleaved (pieces k.text (stop_of x) (map span_of_item rest)) others in
        let before : replaced k.text all (h.answers ++ (a ∷ others)) ≡ out ++ interleaved (pieces k.text at (map span_of_item (x ∷ rest))) (a ∷ others) = subst (λ (z : List MatchItem). replaced k.text all (h.answers ++ (a ∷ others)) ≡ out ++ interleaved (pieces k.text at (map span_of_item z)) (a ∷ others)) e (h.joined (a ∷ others)) in
        let joined : replaced k.text all (h.answers ++ (a ∷ others)) ≡ more ++ tail = before ∙ (regroup out (slice_range k.text at (start_of x)) a tail ∙ ap (λ (z : List ℕ). z ++ tail) (sym m)) in
        ap (replaced k.text all) (append_assoc h.answers (a ∷ []) others) ∙ (joined ∙ ap (λ (z : ℕ). more ++ interleaved (pieces k.text z (map span_of_item rest)) others) (sym f));
    ended = f ∙ sym (end_of_more x h.done);
    none = λ (w : found_one ≡ false). absurd (cc);
    some = λ _ (w : h.done ++ (x ∷ []) ≡ []). no_end h.done x w;
    counted =
        let one_more : length (h.done ++ (x ∷ [])) ≡ suc (length h.done) = omega (arith, length-append h.done (x ∷ [])) in
        l ∙ (ap one_fewer h.counted ∙ (fewer_by_more (length h.done) (limit_of k.limit) ∙ ap (λ (z : ℕ). fewer_by z (limit_of k.limit)) (sym one_more)));
  }

  -- where no match is left, nothing was written any more
  pub goes_over : (first now : R) (out out_now : List ℕ) (at at_now : ℕ) (found found_now : Bool) (left : Option ℕ) (todo : List MatchItem) → todo ≡ [] → out_now ≡ out → at_now ≡ at → found_now ≡ found → Goes k first now out at found left todo → Goes k first now out_now at_now found_now left []
  goes_over first now out out_now at at_now found found_now left todo d e f g h = rw (e, f, g) (subst (λ (z : List MatchItem). Goes k first now out at found left z) d h)

  done_is_all : (first now : R) (out : List ℕ) (at : ℕ) (found : Bool) (left : Option ℕ) (h : Goes k first now out at found left []) → matches_taken k ≡ h.done
  done_is_all first now out at found left h = h.order ∙ append-nil h.done

  -- where no match is left, one was found exactly where there are any
  pub goes_found : (first now : R) (out : List ℕ) (at : ℕ) (found : Bool) (left : Option ℕ) → Goes k first now out at found left [] → (found ≡ false) ↔ (all_matches k.regex k.text ≡ [])
  goes_found first now out at true left h =
      (λ (w : true ≡ false). absurd (cc), λ (w : all_matches k.regex k.text ≡ []). absurd (h.some refl (sym (done_is_all first now out at true left h) ∙ (ap (limited k.limit) w ∙ limited_nil k.limit))))
  goes_found first now out at false left h =
      (λ _. limited_none k.limit (all_matches k.regex k.text) (done_is_all first now out at false left h ∙ h.none refl), λ _. refl)

  -- with no one text for all matches the answers are those of the calls
  answers_by_calls : (first last : R) (items : List MatchItem) (answers : List (List ℕ)) → k.fixed first ≡ None → Answers k.appends first (map (seen_of k.regex k.text) items) answers last → AnswersOf k first last items answers
  answers_by_calls first last items answers unfixed h = rw unfixed h

  pub goes_last : (first now : R) (out result : List ℕ) (at : ℕ) (found : Bool) (left : Option ℕ) → k.fixed first ≡ None → MatchBool found (result ≡ out ++ slice_range k.text at (length k.text)) (result ≡ k.text) → Goes k first now out at found left [] → IsReplaced k first now result
  goes_last first now out result at true left unfixed w h =
      let all = matches_taken k in
      let over : all ≡ h.done = done_is_all first now out at true left h in
      record {
        answers = h.answers;
        given = answers_by_calls first now all h.answers unfixed (subst (λ (z : List MatchItem). Answers k.appends first (map (seen_of k.regex k.text) z) h.answers now) (sym over) h.given);
        joined = w ∙ (ap (λ (z : List ℕ). out ++ z) (sym (append-nil (slice_range k.text at (length k.text)))) ∙ (sym (h.joined []) ∙ ap (replaced k.text all) (append-nil h.answers)));
      }
  goes_last first now out result at false left unfixed w h =
      let over : matches_taken k ≡ [] = done_is_all first now out at false left h ∙ h.none refl in
      let kept : first ≡ now = answers_to_none k.appends first now h.answers (subst (λ (z : List MatchItem). Answers k.appends first (map (seen_of k.regex k.text) z) h.answers now) (h.none refl) h.given) in
      record {
        answers = [];
        given = answers_by_calls first now (matches_taken k) [] unfixed (rw over kept);
        joined = rw (over, w) (sym (append-nil _ ∙ whole_of k.text));
      }

  -- a refusal between the calls, by a search only where the limit is not reached
  pub goes_stopped : (first now : R) (out : List ℕ) (at : ℕ) (found : Bool) (left : Option ℕ) (todo : List MatchItem) (error : Error) → k.fixed first ≡ None → (error ≡ Memory) ⊎ ((is_reached left ≡ false) × IsRefusedFrom k.regex k.text at todo error) → Goes k first now out at found left todo → IsRefusedBetweenCalls k first now error
  goes_stopped first now out at found left todo error unfixed w h = record {
    done = h.done;
    after = record {
      later = todo;
      order = h.order;
      refused = or_else (error ≡ Memory) _ _ (λ s. (leaves_room k.limit left h.done h.counted s.0, subst (λ (z : ℕ). IsRefusedFrom k.regex k.text z todo error) h.ended s.1)) w;
    };
    answers = h.answers;
    given = answers_by_calls first now h.done h.answers unfixed h.given;
  }

  -- a call that refuses, of a replacer with no one text for all matches
  pub goes_refused : (first now last : R) (out : List ℕ) (at : ℕ) (found : Bool) (left : Option ℕ) (x : MatchItem) (todo rest : List MatchItem) (seen : Seen) (error : Error) → k.fixed first ≡ None → todo ≡ x ∷ rest → seen ≡ seen_of k.regex k.text x → k.refuses now seen error last → Goes k first now out at found left todo → IsRefusedByReplacer k first last error
  goes_refused first now last out at found left x todo rest seen error unfixed e s r h = record {
    unfixed = unfixed;
    done = h.done;
    next = x;
    later = rest;
    order = h.order ∙ ap (λ (z : List MatchItem). h.done ++ z) e;
    answers = h.answers;
    state = now;
    given = answers_by_calls first now h.done h.answers unfixed h.given;
    refused = subst (λ (z : Seen). k.refuses now z error last) s r;
  }

  -- the answers of one text for all matches
  answers_fixed : (first : R) (x : List ℕ) (items : List MatchItem) → k.fixed first ≡ Some x → AnswersOf k first first items (map (λ _. x) items)
  answers_fixed first x items fixed = rw fixed (refl, refl)

  -- a replacer with one text for all matches is not called
  pub filled_replaces : (first : R) (x result : List ℕ) → k.fixed first ≡ Some x → result ≡ text_with_each k.text (matches_taken k) x → IsReplaced k first first result
  filled_replaces first x result fixed e = record { answers = map (λ _. x) (matches_taken k); given = answers_fixed first x (matches_taken k) fixed; joined = e }

  pub fixed_stays : (first : R) (x : List ℕ) (error : Error) → k.fixed first ≡ Some x → IsRefusedAfterSome k.regex k.text k.limit error → IsRefusedBetweenCalls k first first error
  fixed_stays first x error fixed w = record { done = w.0; after = w.1; answers = map (λ _. x) w.0; given = answers_fixed first x w.0 fixed }

pub one_taken : {A : Type 0} (left : Option ℕ) (xs ys : List A) (x : A) → is_reached left ≡ false → xs ≡ x ∷ ys → up_to left xs ≡ x ∷ up_to (one_fewer left) ys
one_taken None xs ys x h e = e
one_taken (Some zero) xs ys x h e = absurd (cc)
one_taken (Some (suc n)) xs ys x h e = let q : suc n - 1 ≡ n = omega arith in rw (e, q) refl

-- a text that answers itself to every match
abbrev pub SaysItself : List ℕ → Seen → List ℕ → List ℕ → Type 0
SaysItself x seen answer next = (next ≡ x) × (answer ≡ x)

-- the replacement by such a text, by calls
abbrev pub filling : Regex → List ℕ → ℕ → Replacing (List ℕ)
filling regex t limit = replacing (λ _. None) SaysItself (λ _ _ _ _. ⊥) regex t limit

same_answers : (x y : List ℕ) → y ≡ x → (xs : List Seen) (answers : List (List ℕ)) (last : List ℕ) → Answers SaysItself y xs answers last → answers ≡ map (λ _. x) xs
same_answers x y e [] [] last w = refl
same_answers x y e [] (a ∷ answers) last w = absurd w
same_answers x y e (c ∷ xs) [] last w = absurd w
same_answers x y e (c ∷ xs) (a ∷ answers) last (next, (g, h), w) =
    let q : answers ≡ map (λ _. x) xs = same_answers x next (g ∙ e) xs answers last w in
    let p : a ≡ x = h ∙ e in
    rw (p, q) refl

each_same : {A B C : Type 0} (f : A → B) (x : C) (xs : List A) → map (λ _. x) (map f xs) ≡ map (λ _. x) xs
each_same f x [] = refl
each_same f x (y ∷ xs) = ap (λ (z : List _). x ∷ z) (each_same f x xs)

-- one text for all matches makes the text that is filled with it
pub same_fills : (x last : List ℕ) (regex : Regex) (t : List ℕ) (limit : ℕ) (result : List ℕ) → IsReplaced (filling regex t limit) x last result → result ≡ text_with_each t (first_matches regex t limit) x
same_fills x last regex t limit result w =
    let all = first_matches regex t limit in
    w.joined ∙ ap (replaced t all) (same_answers x x refl (map (seen_of regex t) all) w.answers last w.given ∙ each_same (seen_of regex t) x all)

-- what was refused after the items that a text filled
pub fills_stopped : (x last : List ℕ) (regex : Regex) (t : List ℕ) (limit : ℕ) (error : Error) → IsRefusedBetweenCalls (filling regex t limit) x last error → IsRefusedAfterSome regex t limit error
fills_stopped x last regex t limit error w = (w.done, w.after)

pub one_done : {A : Type 0} (xs rest : List A) (x : A) → xs ≡ x ∷ rest → length rest < length xs
one_done xs rest x e = rw e (omega arith)

-- how a search is refused depends on the regex and the text
pub refused_same : (a b : Regex) (t u : List ℕ) (at : ℕ) (left : Option ℕ) (items : List MatchItem) (e : Error) → a ≡ b → t ≡ u → (e ≡ Memory) ⊎ ((is_reached left ≡ false) × IsRefusedFrom a t at items e) → (e ≡ Memory) ⊎ ((is_reached left ≡ false) × IsRefusedFrom b u at items e)
refused_same a b t u at left items e p q h = rw (← p, ← q) h

-- what a replacer sees depends on the regex, the text and the match
pub seen_same : (a b : Regex) (t u : List ℕ) (x : MatchItem) → a ≡ b → t ≡ u → seen_of a t x ≡ seen_of b u x
seen_same a b t u x e f = ap (λ (z : Regex). seen_of z t x) e ∙ ap (λ (z : List ℕ). seen_of b z x) f

pub seen_is : (a b : Seen) → a.regex ≡ b.regex → a.haystack ≡ b.haystack → a.spans ≡ b.spans → a ≡ b
seen_is a b e f g =
    let one : a ≡ record { regex = b.regex; haystack = a.haystack; spans = a.spans } = ap (λ (z : Regex). record { regex = z; haystack = a.haystack; spans = a.spans }) e in
    let two : record { regex = b.regex; haystack = a.haystack; spans = a.spans } ≡ record { regex = b.regex; haystack = b.haystack; spans = a.spans } = ap (λ (z : List ℕ). record { regex = b.regex; haystack = z; spans = a.spans }) f in
    one ∙ (two ∙ ap (λ (z : List (Option Span)). record { regex = b.regex; haystack = b.haystack; spans = z }) g)

pub none_is : {A : Type 0} (o : Option A) → ((x : A) → o ≡ Some x → ⊥) → o ≡ None
none_is None h = refl
none_is (Some x) h = absurd (h x refl)

pub or_both : (A B C D : Type 0) → (A → C) → (B → D) → A ⊎ B → C ⊎ D
or_both A B C D f g (inl a) = inl (f a)
or_both A B C D f g (inr b) = inr (g b)

-- what is borrowed where nothing was found is borrowed where there are no matches
pub borrowed_is : {A : Type 0} {E : Type 0} (r : Result A E) (P : A → Type 0) (Q W : Type 0) → IfOk r (λ a. P a ↔ Q) → Q ↔ W → IfOk r (λ a. P a ↔ W)
borrowed_is (Ok a) P Q W h k = (λ p. k.0 (h.0 p), λ w. h.1 (k.1 w))
borrowed_is (Err e) P Q W h k = tt
