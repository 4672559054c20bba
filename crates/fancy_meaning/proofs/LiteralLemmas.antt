-- A sequence of characters is found where their UTF-8 stands.
use Rattle.std.proofs.Common.{◌≡◌, ℕ, zero, suc, ◌+◌, ◌-◌, ◌<◌, ◌≤◌, ◌==◌, Bool, true, false, ◌&&◌, cond, filter, nat_le, min, List, [], ◌∷◌, ◌++◌, length, map, Option, Some, None, option_map, if◌then◌else◌, IsTrue, ◌⊎◌, inl, inr, refl, sym, ap, subst, ◌∙◌, arith, true≢false, append_assoc, length-append, leb-true, eqb-true, eq-eqb}
use Rattle.std.specs.Prelude.{encode_utf8, IsUtf8}
use Rattle.std.specs.Char.{IsScalar, len_utf8}
use Rattle.std.specs.Str.{encode_utf8_all, all_scalars}
use Rattle.std.specs.Option.{option_or}
use Rattle.std.proofs.lemmas.Bool.{le-leb}
use Rattle.std.proofs.Math.Utf8.{scalar}
use Rattle.std.proofs.lemmas.Str.{length-encode, drop_past_char}
use Rattle.std.specs.Cmp.Derive.{both_true}
use Rattle.fancy_tree.specs.declared.tree.Meaning.TheVariants.{Unicode}
use Rattle.fancy_tree.specs.Pattern.{empty, character, in_sequence}
use Rattle.fancy_input.specs.Places.{char_at, has_bytes_at, is_boundary}
use Rattle.fancy_input.specs.Requests.{effective_start, positions}
use Rattle.fancy_input.specs.declared.input.Request.{Request}
use Rattle.fancy_input.proofs.TextLemmas.{text_at-boundary}
use Rattle.fancy_meaning.specs.Context.{Context, State, moved_to, option_to, unit_at, past_item}
use Rattle.fancy_meaning.specs.Events.{Event, Walk, stay, bind, move, outcomes_in}
use Rattle.fancy_meaning.specs.Trace.{trace, outcomes}
use Rattle.fancy_meaning.specs.Search.{Query, Answer, context_of, initial, trace_at, accepted, first_one, answer_at, answer_from, search, span_of}
use Rattle.fancy_meaning.specs.Literals.{stands_within, cuts_none, span_if, first_span}
use Rattle.fancy_input.proofs.CharacterLemmas.{bytes_begin, bytes_stand, char_at-from_bytes, char_at-bytes}
use Rattle.fancy_meaning.proofs.SearchLemmas.{and_parts, if_false}

-- the bytes of a character and of a text stand at p where those of the character do, and those of the text after it
character_first : (haystack : List ℕ) (p c : ℕ) (text : List ℕ) → has_bytes_at haystack p (encode_utf8 c ++ text) ≡ true → has_bytes_at haystack p (encode_utf8 c) ≡ true
character_first haystack p c text e =
    bytes_stand haystack p (encode_utf8 c) _ (bytes_begin haystack p (encode_utf8 c ++ text) e ∙ append_assoc (encode_utf8 c) text _)

text_after : (haystack : List ℕ) (p c : ℕ) (text : List ℕ) → has_bytes_at haystack p (encode_utf8 c ++ text) ≡ true → has_bytes_at haystack (p + len_utf8 c) text ≡ true
text_after haystack p c text e =
    bytes_stand haystack (p + len_utf8 c) text _ (drop_past_char haystack _ p c (bytes_begin haystack p (encode_utf8 c ++ text) e ∙ append_assoc (encode_utf8 c) text _))

both_stand : (haystack : List ℕ) (p c : ℕ) (text : List ℕ) → has_bytes_at haystack p (encode_utf8 c) ≡ true → has_bytes_at haystack (p + len_utf8 c) text ≡ true → has_bytes_at haystack p (encode_utf8 c ++ text) ≡ true
both_stand haystack p c text e h =
    let first = bytes_begin haystack p (encode_utf8 c) e in
    let rest = sym (drop_past_char haystack _ p c first) ∙ bytes_begin haystack (p + len_utf8 c) text h in
    bytes_stand haystack p (encode_utf8 c ++ text) _ (first ∙ ap (λ l. encode_utf8 c ++ l) rest ∙ sym (append_assoc (encode_utf8 c) text _))

-- what a character of a pattern reads, by the character that stands there
item_past : (x : Context) (c p : ℕ) → x.meaning ≡ Unicode → (o : Option ℕ) → char_at x.haystack p ≡ o
    → past_item x (λ d. d == c) p ≡ option_to o None (λ d. if d == c then Some (p + len_utf8 d) else None)
unfolding past_item unit_at
item_past x c p m None e = rw (m, e) refl
item_past x c p m (Some d) e = rw (m, e) refl

no_character : (c d : ℕ) → ◌≡◌ {A = Option ℕ} None (Some c) → ⊥
no_character c d e = cc

same_character : (c d : ℕ) → Some d ≡ Some c → d ≡ c
same_character c d e = cc

-- the text stands at p, and ends by the limit
record Stands (haystack : List ℕ) (limit : ℕ) (text : List ℕ) (p : ℕ) : Type 0 where
  has : has_bytes_at haystack p text ≡ true
  ends : p + length text ≤ limit

-- Where the text stands, the events are its end; else there are none.
abbrev Reaches : Context → ℕ → List ℕ → State → List Event → Type 0
Reaches x limit text s es =
    (Stands x.haystack limit text s.place × (es ≡ stay (moved_to s (s.place + length text)))) ⊎ ((Stands x.haystack limit text s.place → ⊥) × (es ≡ []))

module _ (x : Context) (limit : ℕ) (m : x.meaning ≡ Unicode) where
  reads : (c p : ℕ) → IsScalar c
      → ((has_bytes_at x.haystack p (encode_utf8 c) ≡ true) × (past_item x (λ d. d == c) p ≡ Some (p + len_utf8 c)))
      ⊎ ((has_bytes_at x.haystack p (encode_utf8 c) ≡ true → ⊥) × (past_item x (λ d. d == c) p ≡ None))
  reads c p scalar = at (char_at x.haystack p) refl
    where
      there : has_bytes_at x.haystack p (encode_utf8 c) ≡ true → char_at x.haystack p ≡ Some c
      there h = char_at-from_bytes x.haystack p c _ scalar (bytes_begin x.haystack p (encode_utf8 c) h)

      same : (d : ℕ) → char_at x.haystack p ≡ Some d → (b : Bool) → (d == c) ≡ b
          → ((has_bytes_at x.haystack p (encode_utf8 c) ≡ true) × (past_item x (λ d. d == c) p ≡ Some (p + len_utf8 c)))
          ⊎ ((has_bytes_at x.haystack p (encode_utf8 c) ≡ true → ⊥) × (past_item x (λ d. d == c) p ≡ None))
      same d e true f =
          let is : d ≡ c = eqb-true d c f in
          let bytes = char_at-bytes x.haystack p c (e ∙ ap Some is) in
          inl (bytes_stand x.haystack p (encode_utf8 c) bytes.1 bytes.2, item_past x c p m (Some d) e ∙ rw f (ap (λ k. Some (p + len_utf8 k)) is))
      same d e false f = inr (λ h. true≢false (sym (eq-eqb d c (same_character c d (sym e ∙ there h))) ∙ f), item_past x c p m (Some d) e ∙ rw f refl)

      at : (o : Option ℕ) → char_at x.haystack p ≡ o
          → ((has_bytes_at x.haystack p (encode_utf8 c) ≡ true) × (past_item x (λ d. d == c) p ≡ Some (p + len_utf8 c)))
          ⊎ ((has_bytes_at x.haystack p (encode_utf8 c) ≡ true → ⊥) × (past_item x (λ d. d == c) p ≡ None))
      at None e = inr (λ h. no_character c c (sym e ∙ there h), item_past x c p m None e)
      at (Some d) e = same d e (d == c) refl

  -- one character, and then what follows it
  step : (c : ℕ) (text : List ℕ) (s : State) (k : Walk) → IsScalar c → ((t : State) → t.place ≤ limit → Reaches x limit text t (k t))
      → Reaches x limit (encode_utf8 c ++ text) s (bind (move limit s (past_item x (λ d. d == c) s.place)) k)
  step c text s k scalar later =
      elim (reads c s.place scalar) [
        | inl y ↦ subst (λ o. Reaches x limit (encode_utf8 c ++ text) s (bind (move limit s o) k)) (sym y.1) (onward y.0 (nat_le (s.place + len_utf8 c) limit) refl)
        | inr n ↦ inr (λ st. n.0 (character_first x.haystack s.place c text st.has), ap (λ o. bind (move limit s o) k) n.1)
      ]
    where
      wide : length (encode_utf8 c ++ text) ≡ len_utf8 c + length text
      wide = omega (arith, length-append (encode_utf8 c) text, length-encode c)

      after : has_bytes_at x.haystack s.place (encode_utf8 c) ≡ true → Reaches x limit text (moved_to s (s.place + len_utf8 c)) (k (moved_to s (s.place + len_utf8 c)))
          → Reaches x limit (encode_utf8 c ++ text) s (k (moved_to s (s.place + len_utf8 c)) ++ [])
      after h (inl r) =
          let ends = r.0.ends in
          inl (
            record { has = both_stand x.haystack s.place c text h r.0.has; ends = omega (arith, wide, ends) },
            ap (λ es. es ++ []) r.1 ∙ ap (λ q. stay (moved_to s q)) (omega (arith, wide)),
          )
      after h (inr r) = inr (
        λ st. let ends = st.ends in r.0 (record { has = text_after x.haystack s.place c text st.has; ends = omega (arith, wide, ends) }),
        ap (λ es. es ++ []) r.1,
      )

      onward : has_bytes_at x.haystack s.place (encode_utf8 c) ≡ true → (b : Bool) → nat_le (s.place + len_utf8 c) limit ≡ b
          → Reaches x limit (encode_utf8 c ++ text) s (bind (if b then stay (moved_to s (s.place + len_utf8 c)) else []) k)
      onward h true e = after h (later (moved_to s (s.place + len_utf8 c)) (leb-true _ _ e))
      onward h false e = inr (λ st. let ends = st.ends in true≢false (sym (le-leb (s.place + len_utf8 c) limit (omega (arith, wide, ends))) ∙ e), refl)

  moves_alone : (s : State) (o : Option ℕ) → move limit s o ≡ bind (move limit s o) (trace x limit empty)
  unfolding trace
  moves_alone s None = refl
  moves_alone s (Some q) = go (nat_le q limit)
    where
      go : (b : Bool) → (if b then stay (moved_to s q) else []) ≡ bind (if b then stay (moved_to s q) else []) (trace x limit empty)
      go true = refl
      go false = refl

  first_then : (c : ℕ) (cs : List ℕ) (s : State)
      → trace x limit (in_sequence (map character (c ∷ cs))) s ≡ bind (move limit s (past_item x (λ d. d == c) s.place)) (trace x limit (in_sequence (map character cs)))
  unfolding trace
  first_then c [] s = moves_alone s (past_item x (λ d. d == c) s.place)
  first_then c (d ∷ cs) s = refl

  nothing : (s : State) → trace x limit empty s ≡ stay s
  unfolding trace
  nothing s = refl

  characters_reach : (cs : List ℕ) (s : State) → all_scalars cs ≡ true → s.place ≤ limit → Reaches x limit (encode_utf8_all cs) s (trace x limit (in_sequence (map character cs)) s)
  characters_reach [] s scalars h = inl (record { has = bytes_stand x.haystack s.place [] _ refl; ends = omega (arith, h) }, nothing s ∙ ap (λ q. stay (moved_to s q)) (omega arith))
  characters_reach (c ∷ cs) s scalars h =
      let both = and_parts (scalar c) (all_scalars cs) scalars in
      subst (Reaches x limit (encode_utf8_all (c ∷ cs)) s) (sym (first_then c cs s))
      (step c (encode_utf8_all cs) s (trace x limit (in_sequence (map character cs))) both.0 (λ t within. characters_reach cs t both.1 within))

-- a search for these characters alone, the first way there is, on boundaries
pub record Seeks (cs : List ℕ) (q : Query) : Type 0 where
  pub pattern : q.sought.pattern ≡ in_sequence (map character cs)
  pub meaning : q.sought.meaning ≡ Unicode
  pub on_boundaries : q.sought.on_boundaries ≡ true
  pub not_empty : q.sought.not_empty ≡ false
  pub longest : q.sought.longest ≡ false

three_tests : (a b : Bool) → (a && (a && (b && true))) ≡ (a && b)
three_tests true true = refl
three_tests true false = refl
three_tests false b = refl

one_kept : (test : State → Bool) (s : State) → first_one (filter test (s ∷ [])) ≡ (if test s then Some s else None)
one_kept test s = go (test s)
  where
    go : (b : Bool) → first_one (cond b (s ∷ []) []) ≡ (if b then Some s else None)
    go true = refl
    go false = refl

few : (anchored : Bool) (n : ℕ) → (if anchored then min 1 n else n) ≤ n
few true n = omega arith
few false n = omega arith

module _ (cs : List ℕ) (scalars : all_scalars cs ≡ true) (q : Query) (seeks : Seeks cs q) where
  -- the text stands at p, on boundaries
  fits : ℕ → Bool
  fits p = stands_within (encode_utf8_all cs) q.haystack q.request.range_end p && cuts_none (encode_utf8_all cs) q.haystack p

  reached_at : (p : ℕ) → p ≤ q.request.range_end → Reaches (context_of q) q.request.range_end (encode_utf8_all cs) (initial q p) (trace_at q p)
  reached_at p h =
      subst (λ a. Reaches (context_of q) q.request.range_end (encode_utf8_all cs) (initial q p) (trace (context_of q) q.request.range_end a (initial q p))) (sym seeks.pattern)
      (characters_reach (context_of q) q.request.range_end seeks.meaning cs (initial q p) scalars h)

  taken : (p r : ℕ) → accepted q p (moved_to (initial q p) r) ≡ (is_boundary q.haystack p && is_boundary q.haystack r)
  taken p r = rw (seeks.on_boundaries, seeks.not_empty) (three_tests (is_boundary q.haystack p) (is_boundary q.haystack r))

  standing : (p : ℕ) → Stands q.haystack q.request.range_end (encode_utf8_all cs) p → stands_within (encode_utf8_all cs) q.haystack q.request.range_end p ≡ true
  standing p st = rw (st.has) (le-leb _ _ st.ends)

  falling : (p : ℕ) → (Stands q.haystack q.request.range_end (encode_utf8_all cs) p → ⊥) → stands_within (encode_utf8_all cs) q.haystack q.request.range_end p ≡ false
  falling p n = go (stands_within (encode_utf8_all cs) q.haystack q.request.range_end p) refl
    where
      go : (b : Bool) → stands_within (encode_utf8_all cs) q.haystack q.request.range_end p ≡ b → b ≡ false
      go true e = let both = and_parts (has_bytes_at q.haystack p (encode_utf8_all cs)) _ e in absurd (n (record { has = both.0; ends = leb-true _ _ both.1 }))
      go false e = refl

  answer_is : (p : ℕ) → p ≤ q.request.range_end → answer_at q p ≡ (if fits p then Some (moved_to (initial q p) (p + length (encode_utf8_all cs))) else None)
  unfolding answer_at outcomes fits
  answer_is p h =
      if_false q.sought.longest _ _ seeks.longest
      ∙ elim (reached_at p h) [
        | inl y ↦
            ap (λ es. first_one (filter (accepted q p) (outcomes_in es))) y.1
            ∙ (one_kept (accepted q p) (moved_to (initial q p) (p + length (encode_utf8_all cs)))
            ∙ ap (λ b. if b then Some (moved_to (initial q p) (p + length (encode_utf8_all cs))) else None) (taken p _ ∙ ap (λ b. b && cuts_none (encode_utf8_all cs) q.haystack p) (sym (standing p y.0))))
        | inr n ↦
            ap (λ es. first_one (filter (accepted q p) (outcomes_in es))) n.1
            ∙ ap (λ b. if b && cuts_none (encode_utf8_all cs) q.haystack p then Some (moved_to (initial q p) (p + length (encode_utf8_all cs))) else None) (sym (falling p n.0))
      ]

  found : (n p : ℕ) → ((k : ℕ) → k < n → p + k ≤ q.request.range_end)
      → option_map span_of (answer_from q n p) ≡ first_span (encode_utf8_all cs) q.haystack q.request.range_end n p
  unfolding answer_from fits
  found zero p h = refl
  found (suc n) p h =
      let first = h 0 (omega arith) in
      ap (λ o. option_map span_of (option_or (option_map (λ s. record { position = p; state = s }) o) (answer_from q n (p + 1)))) (answer_is p (omega (arith, first)))
      ∙ go (fits p) (found n (p + 1) (λ k less. let next = h (k + 1) (omega (arith, less)) in omega (arith, next)))
    where
      go : (b : Bool) → option_map span_of (answer_from q n (p + 1)) ≡ first_span (encode_utf8_all cs) q.haystack q.request.range_end n (p + 1)
          → option_map span_of (option_or (option_map {U = Answer} (λ s. record { position = p; state = s }) (if b then Some (moved_to (initial q p) (p + length (encode_utf8_all cs))) else None)) (answer_from q n (p + 1)))
          ≡ option_or (span_if b (encode_utf8_all cs) p) (first_span (encode_utf8_all cs) q.haystack q.request.range_end n (p + 1))
      go true later = refl
      go false later = later

  -- the search answers the first place where the text stands
  pub finds_first : option_map span_of (search q) ≡ first_span (encode_utf8_all cs) q.haystack q.request.range_end (positions q.request) (effective_start q.request)
  finds_first = found _ _ (λ k less. let most = few q.request.anchored (q.request.range_end + 1 - effective_start q.request) in omega (arith, most, less))

-- where one place alone is tried
one_span : (text haystack : List ℕ) (limit p n : ℕ) → n ≡ min 1 (limit + 1 - p)
    → first_span text haystack limit n p ≡ span_if (stands_within text haystack limit p && cuts_none text haystack p) text p
one_span text haystack limit p zero e = go (has_bytes_at haystack p text) (nat_le (p + length text) limit) refl
  where
    go : (a b : Bool) → nat_le (p + length text) limit ≡ b → None ≡ span_if ((a && b) && cuts_none text haystack p) text p
    go true true h = let within = leb-true (p + length text) limit h in absurd (omega (arith, e, within))
    go true false h = refl
    go false b h = refl
one_span text haystack limit p (suc zero) e = go (stands_within text haystack limit p && cuts_none text haystack p)
  where
    go : (b : Bool) → option_or (span_if b text p) None ≡ span_if b text p
    go true = refl
    go false = refl
one_span text haystack limit p (suc (suc n)) e = absurd (omega (arith, e))

pub anchored_span : (text haystack : List ℕ) (r : Request) → r.anchored ≡ true
    → first_span text haystack r.range_end (positions r) (effective_start r)
    ≡ span_if (stands_within text haystack r.range_end (effective_start r) && cuts_none text haystack (effective_start r)) text (effective_start r)
anchored_span text haystack r h = one_span text haystack r.range_end (effective_start r) (positions r) (rw h refl)

-- a text that stands in a text at a boundary cuts no character
pub text_cuts_none : (text haystack : List ℕ) (limit p : ℕ) → IsUtf8 text → IsUtf8 haystack → limit ≤ length haystack → (p ≤ length haystack → IsTrue (is_boundary haystack p))
    → (stands_within text haystack limit p && cuts_none text haystack p) ≡ stands_within text haystack limit p
text_cuts_none text haystack limit p part whole range begins = go (stands_within text haystack limit p) refl
  where
    go : (b : Bool) → stands_within text haystack limit p ≡ b → (b && cuts_none text haystack p) ≡ b
    go false e = refl
    go true e =
        let both = and_parts (has_bytes_at haystack p text) _ e in
        let within = leb-true (p + length text) limit both.1 in
        let inside : p ≤ length haystack = omega (arith, within, range) in
        both_true (begins inside) (text_at-boundary haystack p text whole part inside (begins inside) both.0)
