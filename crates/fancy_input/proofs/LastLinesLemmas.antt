-- Where only line ends follow at one place, they do at each later one.
use Rattle.std.proofs.Common.{◌≡◌, ℕ, zero, suc, ◌+◌, ◌-◌, ◌≤◌, ◌==◌, Bool, true, false, ◌&&◌, List, [], ◌∷◌, length, drop, if◌then◌else◌, refl, sym, ap, ◌∙◌, arith}
use Rattle.std.proofs.lemmas.List.{drop-drop}
use Rattle.fancy_input.specs.declared.last_lines.Row.{Row}
use Rattle.fancy_input.specs.Lines.{are_line_feeds, are_line_ends}
use Rattle.fancy_input.specs.LastLines.{ends_only, Told}

and_first : (a b : Bool) → (a && b) ≡ true → a ≡ true
and_first true b e = refl
and_first false b e = e

and_second : (a b : Bool) → (a && b) ≡ true → b ≡ true
and_second true b e = e
and_second false b e = cc

then_so : (t a b : Bool) → (t && a) ≡ true → (if t then a else b) ≡ true
then_so true a b e = e
then_so false a b e = cc

either_way : (t a b : Bool) → (if t then a else b) ≡ true → (b ≡ true → a ≡ true) → a ≡ true
either_way true a b e k = e
either_way false a b e k = k e

feed_first : (b : ℕ) (rest : List ℕ) → ((b == 10) && are_line_ends rest) ≡ true → are_line_ends (b ∷ rest) ≡ true
feed_first b [] e = and_first (b == 10) true e
feed_first b (c ∷ rest) e = then_so (b == 10) (are_line_ends (c ∷ rest)) _ e

one_later : (crlf : Bool) (b : ℕ) (rest : List ℕ) → ends_only crlf (b ∷ rest) ≡ true → ends_only crlf rest ≡ true
one_later false b rest e = and_second (b == 10) (are_line_feeds rest) e
one_later true b [] e = refl
one_later true b (c ∷ rest) e =
    either_way (b == 10) (are_line_ends (c ∷ rest)) _ e (λ both. feed_first c rest (and_second (b == 13) _ both))

some_later : (crlf : Bool) (bytes : List ℕ) (n : ℕ) → ends_only crlf bytes ≡ true → ends_only crlf (drop n bytes) ≡ true
some_later crlf bytes zero e = e
some_later crlf [] (suc n) e = e
some_later crlf (b ∷ bytes) (suc n) e = some_later crlf bytes n (one_later crlf b bytes e)

later : (crlf : Bool) (haystack : List ℕ) (p q : ℕ) → p ≤ q → ends_only crlf (drop p haystack) ≡ true → ends_only crlf (drop q haystack) ≡ true
later crlf haystack p q le e =
    let same : drop (q - p) (drop p haystack) ≡ drop q haystack =
    drop-drop (q - p) p haystack ∙ ap (λ (n : ℕ). drop n haystack) (let n : p + (q - p) ≡ q = omega arith in n) in
    sym (ap (ends_only crlf) same) ∙ some_later crlf (drop p haystack) (q - p) e

never_both : (a b : Bool) → (a ≡ true → b ≡ true) → b ≡ false → a ≡ false
never_both true b k e = sym (k refl) ∙ e
never_both false b k e = refl

earlier : (crlf : Bool) (haystack : List ℕ) (p q : ℕ) → p ≤ q → ends_only crlf (drop q haystack) ≡ false → ends_only crlf (drop p haystack) ≡ false
earlier crlf haystack p q le e = never_both (ends_only crlf (drop p haystack)) (ends_only crlf (drop q haystack)) (later crlf haystack p q le) e

nothing_is : (crlf : Bool) → ends_only crlf [] ≡ true
nothing_is false = refl
nothing_is true = refl

module _ (crlf : Bool) (haystack : List ℕ) (row : Row) (told : Told (ends_only crlf) haystack row) where
  -- something else stands at q
  pub told_none : (q : ℕ) → ends_only crlf (drop q haystack) ≡ false → Told (ends_only crlf) haystack (record row { none_before = q + 1 })
  told_none q e = record {
    before = λ p lt. earlier crlf haystack p q (omega arith) e;
    from = told.from;
    inside = told.inside;
  }

  -- only line ends follow at q
  pub told_all : (q : ℕ) → ends_only crlf (drop q haystack) ≡ true → q ≤ length haystack → Told (ends_only crlf) haystack (record row { all_from = q })
  told_all q e le = record {
    before = told.before;
    from = λ p low. later crlf haystack q p low e;
    inside = le;
  }
