-- The pieces of a text, one after another.
use Rattle.std.proofs.Common.{◌≡◌, ◌∙◌, ◌<◌, ◌+◌, ◌-◌, ℕ, zero, suc, List, [], ◌∷◌, ◌++◌, Option, Some, None, length, take, refl, sym, ap, arith, append_assoc}
use Rattle.std.proofs.lemmas.List.{length-append}
use Rattle.fancy_regex.specs.declared.Regex.{Regex}
use Rattle.fancy_regex.specs.declared.Span.{Span as Found}
use Rattle.fancy_regex.specs.Splits.{match_spans}
use Rattle.fancy_regex_c.specs.declared.plain.Span.{Span}
use Rattle.fancy_regex_c.specs.Buffers.{filled, PutsNext}
use Rattle.fancy_regex_c.specs.Splitting.{between, first_between, pieces_of}
use Rattle.fancy_regex_c.proofs.FilledLemmas.{take_of_none, filled_with_none}

-- How far a text is cut: these pieces are in the buffer, and those between the spans that are left come after them.
pub record Cuts (all : List Span) (end limit : ℕ) (old now : List Span) (count start : ℕ) (left : List Found) : Type 0 where
  pub done : List Span
  pub counted : length done ≡ count
  pub put : now ≡ filled done old
  pub rest : all ≡ done ++ first_between (limit - count) end start left

pub cuts_first : (regex : Regex) (text : List ℕ) (limit : ℕ) (old : List Span) (count : ℕ) (left : List Found) → count ≡ 0 → left ≡ match_spans regex text
    → Cuts (pieces_of regex text limit) (length text) limit old old count 0 left
cuts_first regex text limit old count left e f =
    let whole : limit ≡ limit - count = omega (arith, e) in
    record {
      done = [];
      counted = sym e;
      put = sym (filled_with_none old);
      rest = ap (λ (n : ℕ). first_between n (length text) 0 (match_spans regex text)) whole ∙ ap (λ (xs : List Found). first_between (limit - count) (length text) 0 xs) (sym f);
    }

module _ (all : List Span) (end limit : ℕ) (old : List Span) where
  pub cuts_more : (now next : List Span) (count start : ℕ) (piece : Span) (left rest : List Found) (x : Found) → left ≡ x ∷ rest → count + 1 < limit
      → piece ≡ record { start = start; end = x.start } → PutsNext piece now next count → Cuts all end limit old now count start left → Cuts all end limit old next (count + 1) x.end rest
  cuts_more now next count start piece left rest x e room p puts c =
      let far : limit - count ≡ suc (suc (limit - count - 2)) = omega (arith, room) in
      let near : limit - (count + 1) ≡ suc (limit - count - 2) = omega (arith, room) in
      let here : first_between (limit - count) end start left ≡ piece ∷ first_between (limit - (count + 1)) end x.end rest = rw (far, near, e, p) refl in
      record {
        done = c.done ++ (piece ∷ []);
        counted = length-append c.done (piece ∷ []) ∙ ap (λ (n : ℕ). n + 1) c.counted;
        put = puts c.done old c.counted c.put;
        rest = c.rest ∙ (ap (λ (z : List Span). c.done ++ z) here ∙ sym (append_assoc c.done (piece ∷ []) _));
      }

  -- the last piece is the rest: no span is left, or the limit is reached
  ends_none : (n start : ℕ) → between end start (take n []) ≡ record { start = start; end = end } ∷ []
  ends_none n start = ap (between end start) (take_of_none {A = Found} n)

  pub cuts_last : (now next : List Span) (count start : ℕ) (piece : Span) (left : List Found) → left ≡ [] → count < limit
      → piece ≡ record { start = start; end = end } → PutsNext piece now next count → Cuts all end limit old now count start left
      → (count + 1 ≡ length all) × (next ≡ filled all old)
  cuts_last now next count start piece left e room p puts c =
      let far : limit - count ≡ suc (limit - count - 1) = omega (arith, room) in
      let here : first_between (limit - count) end start left ≡ piece ∷ [] = rw (far, e, p) (ends_none (limit - count - 1) start) in
      let whole : all ≡ c.done ++ (piece ∷ []) = c.rest ∙ ap (λ (z : List Span). c.done ++ z) here in
      (sym (ap length whole ∙ (length-append c.done (piece ∷ []) ∙ ap (λ (n : ℕ). n + 1) c.counted)), puts c.done old c.counted c.put ∙ ap (λ (z : List Span). filled z old) (sym whole))

  pub cuts_at_limit : (now next : List Span) (count start : ℕ) (piece : Span) (left : List Found) → count + 1 ≡ limit
      → piece ≡ record { start = start; end = end } → PutsNext piece now next count → Cuts all end limit old now count start left
      → (count + 1 ≡ length all) × (next ≡ filled all old)
  cuts_at_limit now next count start piece left room p puts c =
      let far : limit - count ≡ suc zero = omega (arith, room) in
      let here : first_between (limit - count) end start left ≡ piece ∷ [] = rw (far, p) refl in
      let whole : all ≡ c.done ++ (piece ∷ []) = c.rest ∙ ap (λ (z : List Span). c.done ++ z) here in
      (sym (ap length whole ∙ (length-append c.done (piece ∷ []) ∙ ap (λ (n : ℕ). n + 1) c.counted)), puts c.done old c.counted c.put ∙ ap (λ (z : List Span). filled z old) (sym whole))

-- what is not some is none
pub none_is : {A : Type 0} (o : Option A) → ((x : A) → o ≡ Some x → ⊥) → o ≡ None
none_is None h = refl
none_is (Some x) h = absurd (h x refl)
