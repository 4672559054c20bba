-- Rows of digits, and counts.
use Rattle.std.proofs.Common.{◌≡◌, ℕ, ◌+◌, ◌*◌, ◌-◌, ◌<◌, ◌≤◌, ◌^◌, ◌||◌, ◌&&◌, min, nat_le, Bool, true, false, [], ◌∷◌, ◌++◌, Some, None, drop, length, get_or, suc, add-one, drop-cons, refl, sym, ap, ◌∙◌, subst, append_assoc, arith, cond, codes}
use Rattle.std.specs.Char.{is_ascii_digit}
use Rattle.std.proofs.lemmas.Bool.Decides.{nat_tests}
use Rattle.std.proofs.lemmas.List.{drop_all}
use Rattle.fancy_tree.specs.Limits.{most_turns}
use Rattle.fancy_tree.specs.Text.{Text}
use Rattle.fancy_class.specs.Words.{is_at}
use Rattle.fancy_syntax.specs.Counts.{is_at_digit, past_digits, decimal_from, decimal, are_digits, is_count, begins_count}
use Rattle.fancy_syntax.specs.Dialect.{IsBound, Quantifier, exactly, at_least, between, at_most}
use Rattle.fancy_syntax.specs.Grammar.{RepeatBounds, bounds_in, past_count, are_bounds}
use Rattle.fancy_tree.proofs.Facts.{both_true, left_of}
use Rattle.fancy_class.proofs.WordLemmas.{first_is}

-- numbers that are one, or both past the limit, stay so
pub same_decimal : (t : Text) (n m : ℕ) → min n (2 ^ 64 - 1) ≡ min m (2 ^ 64 - 1) → min (decimal_from n t) (2 ^ 64 - 1) ≡ min (decimal_from m t) (2 ^ 64 - 1)
unfolding decimal_from
same_decimal [] n m h = h
same_decimal (c ∷ t) n m h = go (is_ascii_digit c) (same_decimal t (n * 10 + (c - 48)) (m * 10 + (c - 48)) (omega (arith, h)))
  where
    go : (b : Bool) → min (decimal_from (n * 10 + (c - 48)) t) (2 ^ 64 - 1) ≡ min (decimal_from (m * 10 + (c - 48)) t) (2 ^ 64 - 1)
        → min (cond b (decimal_from (n * 10 + (c - 48)) t) n) (2 ^ 64 - 1) ≡ min (cond b (decimal_from (m * 10 + (c - 48)) t) m) (2 ^ 64 - 1)
    go true more = more
    go false more = h

-- one more digit
pub decimal_step : (t : Text) (n c : ℕ) → is_ascii_digit c ≡ true → decimal_from n (c ∷ t) ≡ decimal_from (n * 10 + (c - 48)) t
unfolding decimal_from
decimal_step t n c h = rw h refl

pub decimal_stop : (t : Text) (n c : ℕ) → is_ascii_digit c ≡ false → decimal_from n (c ∷ t) ≡ n
unfolding decimal_from
decimal_stop t n c h = rw h refl

pub decimal_end : (n : ℕ) → decimal_from n [] ≡ n
unfolding decimal_from
decimal_end n = refl

-- the digit at a place
pub digit_at : (t : Text) (i d n m : ℕ) → i < length t → is_ascii_digit (get_or t i d) ≡ true → m ≡ min (min (n * 10) (2 ^ 64 - 1) + (get_or t i d - 48)) (2 ^ 64 - 1)
    → min (decimal_from n (drop i t)) (2 ^ 64 - 1) ≡ min (decimal_from m (drop (i + 1) t)) (2 ^ 64 - 1)
digit_at t i d n m l h e = rw (add-one, drop-cons t i d, decimal_step (drop (suc i) t) n (get_or t i d) h) (same_decimal (drop (suc i) t) (n * 10 + (get_or t i d - 48)) m (omega (arith, e)))

pub no_digit_at : (t : Text) (i d n : ℕ) → i < length t → is_ascii_digit (get_or t i d) ≡ false → decimal_from n (drop i t) ≡ n
no_digit_at t i d n l h = rw (drop-cons t i d, decimal_stop (drop (suc i) t) n (get_or t i d) h) refl

pub no_more_digits : (t : Text) (i n : ℕ) → length t ≤ i → decimal_from n (drop i t) ≡ n
no_more_digits t i n h = rw (drop_all i t h) (decimal_end n)

-- a row of digits in front of a text that begins with none
pub past_row : (n t : Text) → are_digits n ≡ true → is_at_digit t ≡ false → past_digits (n ++ t) ≡ t
past_row [] [] d e = refl
past_row [] (c ∷ t) d e = rw e refl
past_row (c ∷ n) t d e = let b = both_true (is_ascii_digit c) (are_digits n) d in rw b.0 (past_row n t b.1 e)

decimal_from-row : (n t : Text) (k : ℕ) → are_digits n ≡ true → is_at_digit t ≡ false → decimal_from k (n ++ t) ≡ decimal_from k n
unfolding decimal_from
decimal_from-row [] [] k d e = refl
decimal_from-row [] (c ∷ t) k d e = rw e refl
decimal_from-row (c ∷ n) t k d e = let b = both_true (is_ascii_digit c) (are_digits n) d in rw b.0 (decimal_from-row n t (k * 10 + (c - 48)) b.1 e)

pub decimal-row : (n t : Text) → are_digits n ≡ true → is_at_digit t ≡ false → decimal (n ++ t) ≡ decimal n
decimal-row n t d e = decimal_from-row n t 0 d e

pub at_row : (n t : Text) → is_at_digit n ≡ true → is_at_digit (n ++ t) ≡ true
at_row [] t h = cc
at_row (c ∷ n) t h = h

-- the row of digits that stands first, with what follows it
pub record Row (t : Text) : Type 0 where
  pub row : Text
  pub is : t ≡ row ++ past_digits t
  pub digits : are_digits row ≡ true
  pub ends : is_at_digit (past_digits t) ≡ false
  pub begins : is_at_digit t ≡ is_at_digit row
  pub number : (n : ℕ) → decimal_from n t ≡ decimal_from n row

pub row_of : (t : Text) → Row t
unfolding decimal_from
row_of [] = record { row = []; is = refl; digits = refl; ends = refl; begins = refl; number = λ n. refl }
row_of (c ∷ t) = go (is_ascii_digit c) refl (row_of t)
  where
    go : (b : Bool) → is_ascii_digit c ≡ b → Row t → Row (c ∷ t)
    go true e r = record {
      row = c ∷ r.row;
      is = rw e (ap (λ l. c ∷ l) r.is);
      digits = rw e r.digits;
      ends = rw e r.ends;
      begins = refl;
      number = λ n. rw e (r.number (n * 10 + (c - 48)));
    }
    go false e r = record { row = []; is = rw e refl; digits = refl; ends = rw e e; begins = e; number = λ n. rw e refl }

le_true : (n m : ℕ) → n ≤ m → nat_le n m ≡ true
le_true n m h = grind (arith, nat_tests)

true_le : (n m : ℕ) → nat_le n m ≡ true → n ≤ m
true_le n m h = grind (arith, nat_tests)

-- a count that is spelled, as it is read after its brace
pub record IsRead (t after : Text) (b : RepeatBounds) : Type 0 where
  pub begins : begins_count (123 ∷ t) ≡ true
  pub bounds : bounds_in t ≡ b
  pub fits : are_bounds b ≡ true
  pub follows : past_count t ≡ after

pub exactly_is_read : (n after : Text) → IsBound n → IsRead (n ++ (codes "}" ++ after)) after (decimal n, Some (decimal n))
exactly_is_read n after h =
    let past = past_row n (125 ∷ after) h.digits refl in
    let value = decimal-row n (125 ∷ after) h.digits refl in
    let some = at_row n (125 ∷ after) h.some in
    record {
      begins = rw (some, past) refl;
      bounds = rw (past, value) refl;
      fits = rw (le_true (decimal n) (decimal n) (omega arith), le_true (decimal n) most_turns h.small) refl;
      follows = rw past refl;
    }

pub at_least_is_read : (n after : Text) → IsBound n → IsRead (n ++ (codes ",}" ++ after)) after (decimal n, None)
at_least_is_read n after h =
    let past = past_row n (44 ∷ 125 ∷ after) h.digits refl in
    let value = decimal-row n (44 ∷ 125 ∷ after) h.digits refl in
    let some = at_row n (44 ∷ 125 ∷ after) h.some in
    record {
      begins = rw (some, past) refl;
      bounds = rw (past, value) refl;
      fits = le_true (decimal n) most_turns h.small;
      follows = rw past refl;
    }

pub between_is_read : (n m after : Text) → IsBound n → IsBound m → decimal n ≤ decimal m → IsRead (n ++ (codes "," ++ (m ++ (codes "}" ++ after)))) after (decimal n, Some (decimal m))
between_is_read n m after h f le =
    let past : past_digits (n ++ 44 ∷ (m ++ 125 ∷ after)) ≡ 44 ∷ (m ++ 125 ∷ after) = past_row n (44 ∷ (m ++ 125 ∷ after)) h.digits refl in
    let value : decimal (n ++ 44 ∷ (m ++ 125 ∷ after)) ≡ decimal n = decimal-row n (44 ∷ (m ++ 125 ∷ after)) h.digits refl in
    let some : is_at_digit (n ++ 44 ∷ (m ++ 125 ∷ after)) ≡ true = at_row n (44 ∷ (m ++ 125 ∷ after)) h.some in
    let past_upper : past_digits (m ++ 125 ∷ after) ≡ 125 ∷ after = past_row m (125 ∷ after) f.digits refl in
    let upper : decimal (m ++ 125 ∷ after) ≡ decimal m = decimal-row m (125 ∷ after) f.digits refl in
    let some_upper : is_at_digit (m ++ 125 ∷ after) ≡ true = at_row m (125 ∷ after) f.some in
    record {
      begins = rw (some, past, past_upper) refl;
      bounds = rw (past, some_upper, value, upper) refl;
      fits = rw (le_true (decimal n) (decimal m) le, le_true (decimal m) most_turns f.small) refl;
      follows = rw (past, past_upper) refl;
    }

pub at_most_is_read : (m after : Text) → IsBound m → IsRead (codes "," ++ (m ++ (codes "}" ++ after))) after (0, Some (decimal m))
at_most_is_read m after f =
    let past_upper = past_row m (125 ∷ after) f.digits refl in
    let upper = decimal-row m (125 ∷ after) f.digits refl in
    let some_upper = at_row m (125 ∷ after) f.some in
    record {
      begins = rw (past_upper, some_upper) refl;
      bounds = rw (some_upper, upper, decimal_stop (m ++ 125 ∷ after) 0 44 refl) refl;
      fits = rw (le_true 0 (decimal m) (omega arith), le_true (decimal m) most_turns f.small) refl;
      follows = rw past_upper refl;
    }

-- a count that is read after its brace, as it is spelled
pub record IsSpelled (t : Text) (b : RepeatBounds) (after : Text) : Type 0 where
  pub mark : Text
  pub text : t ≡ mark ++ after
  pub states : Quantifier (123 ∷ mark) b.0 b.1

bound_of : (t : Text) (r : Row t) → is_at_digit t ≡ true → decimal t ≤ most_turns → IsBound r.row
bound_of t r h small = record { some = sym r.begins ∙ h; digits = r.digits; small = subst (λ n. n ≤ most_turns) (r.number 0) small }

-- a row that does not begin with a digit is empty
no_row : (n : Text) → are_digits n ≡ true → is_at_digit n ≡ false → n ≡ []
no_row [] d e = refl
no_row (c ∷ n) d e = let b = both_true (is_ascii_digit c) (are_digits n) d in absurd (let no : true ≡ false = sym b.0 ∙ e in cc)

closed_facts : (a b c d e : Bool) → ((a && b) || (c && (d && (a || e)))) ≡ true → c ≡ false → a ≡ true
closed_facts true b c d e h f = refl
closed_facts false b true d e h f = cc
closed_facts false b false d e h f = cc

open_facts : (a b c d e : Bool) → ((a && b) || (c && (d && (a || e)))) ≡ true → b ≡ false → (c ≡ true) × ((d ≡ true) × ((a || e) ≡ true))
open_facts a true c d e h f = cc
open_facts true false true true e h f = (refl, (refl, refl))
open_facts true false true false e h f = cc
open_facts true false false d e h f = cc
open_facts false false true true e h f = (refl, (refl, h))
open_facts false false true false e h f = cc
open_facts false false false d e h f = cc

closed_count : (t : Text) → is_count t ≡ true → is_at "}" (past_digits t) ≡ true → are_bounds (decimal t, Some (decimal t)) ≡ true → IsSpelled t (decimal t, Some (decimal t)) (drop 1 (past_digits t))
closed_count t h e f =
    let r = row_of t in
    let u = past_digits t in
    let is : u ≡ 125 ∷ drop 1 u = first_is 125 u e in
    let some : is_at_digit t ≡ true = closed_facts (is_at_digit t) (is_at "}" u) (is_at "," u) (is_at "}" (past_digits (drop 1 u))) (is_at_digit (drop 1 u)) h (ap (is_at ",") is) in
    let small : decimal t ≤ most_turns = true_le (decimal t) most_turns (both_true (nat_le (decimal t) (decimal t)) (nat_le (decimal t) most_turns) f).1 in
    record {
      mark = r.row ++ codes "}";
      text = r.is ∙ (ap (λ l. r.row ++ l) is ∙ sym (append_assoc r.row (125 ∷ []) (drop 1 u)));
      states = subst (λ n. Quantifier (123 ∷ (r.row ++ 125 ∷ [])) n (Some n)) (sym (r.number 0)) (exactly r.row (bound_of t r some small));
    }

open_count : (t : Text) → is_count t ≡ true → is_at "}" (past_digits t) ≡ false → is_at_digit (drop 1 (past_digits t)) ≡ false → are_bounds (decimal t, None) ≡ true
    → IsSpelled t (decimal t, None) (drop 1 (past_digits (drop 1 (past_digits t))))
open_count t h e ended f =
    let r = row_of t in
    let u = past_digits t in
    let v = drop 1 u in
    let q = row_of v in
    let w = past_digits v in
    let facts = open_facts (is_at_digit t) (is_at "}" u) (is_at "," u) (is_at "}" w) (is_at_digit v) h e in
    let is : u ≡ 44 ∷ v = first_is 44 u facts.0 in
    let ends : w ≡ 125 ∷ drop 1 w = first_is 125 w facts.1.0 in
    let some : is_at_digit t ≡ true = left_of (is_at_digit t) (is_at_digit v) facts.1.1 ended in
    let none : q.row ≡ [] = no_row q.row q.digits (sym q.begins ∙ ended) in
    let follows : v ≡ w = q.is ∙ ap (λ l. l ++ w) none in
    let small : decimal t ≤ most_turns = true_le (decimal t) most_turns f in
    record {
      mark = r.row ++ codes ",}";
      text = r.is ∙ (ap (λ l. r.row ++ l) (is ∙ ap (λ l. 44 ∷ l) (follows ∙ ends)) ∙ sym (append_assoc r.row (44 ∷ 125 ∷ []) (drop 1 w)));
      states = subst (λ n. Quantifier (123 ∷ (r.row ++ 44 ∷ 125 ∷ [])) n None) (sym (r.number 0)) (at_least r.row (bound_of t r some small));
    }

two_counts : (t : Text) → is_count t ≡ true → is_at "}" (past_digits t) ≡ false → is_at_digit (drop 1 (past_digits t)) ≡ true → are_bounds (decimal t, Some (decimal (drop 1 (past_digits t)))) ≡ true
    → IsSpelled t (decimal t, Some (decimal (drop 1 (past_digits t)))) (drop 1 (past_digits (drop 1 (past_digits t))))
two_counts t h e some_upper f = go (is_at_digit t) refl
  where
    go : (b : Bool) → is_at_digit t ≡ b → IsSpelled t (decimal t, Some (decimal (drop 1 (past_digits t)))) (drop 1 (past_digits (drop 1 (past_digits t))))
    go true x =
        let r = row_of t in
        let u = past_digits t in
        let v = drop 1 u in
        let q = row_of v in
        let w = past_digits v in
        let facts = open_facts (is_at_digit t) (is_at "}" u) (is_at "," u) (is_at "}" w) (is_at_digit v) h e in
        let is : u ≡ 44 ∷ v = first_is 44 u facts.0 in
        let ends : w ≡ 125 ∷ drop 1 w = first_is 125 w facts.1.0 in
        let fits = both_true (nat_le (decimal t) (decimal v)) (nat_le (decimal v) most_turns) f in
        let small : decimal v ≤ most_turns = true_le (decimal v) most_turns fits.1 in
        let ordered : decimal t ≤ decimal v = true_le (decimal t) (decimal v) fits.0 in
        let less : decimal t ≤ most_turns = omega (arith, small, ordered) in
        record {
          mark = r.row ++ (codes "," ++ (q.row ++ codes "}"));
          text = r.is ∙ (ap (λ l. r.row ++ l) (is ∙ ap (λ l. 44 ∷ l) (q.is ∙ (ap (λ l. q.row ++ l) ends ∙ sym (append_assoc q.row (125 ∷ []) (drop 1 w))))) ∙ sym (append_assoc r.row (44 ∷ (q.row ++ 125 ∷ [])) (drop 1 w)));
          states = subst (λ m. Quantifier (123 ∷ (r.row ++ (44 ∷ (q.row ++ 125 ∷ [])))) (decimal t) (Some m)) (sym (q.number 0)) (subst (λ n. Quantifier (123 ∷ (r.row ++ (44 ∷ (q.row ++ 125 ∷ [])))) n (Some (decimal q.row))) (sym (r.number 0))
              (between r.row q.row (bound_of t r x less) (bound_of v q some_upper small) (subst (λ n. decimal r.row ≤ n) (q.number 0) (subst (λ n. n ≤ decimal v) (r.number 0) ordered))));
        }
    go false x =
        let r = row_of t in
        let u = past_digits t in
        let v = drop 1 u in
        let q = row_of v in
        let w = past_digits v in
        let facts = open_facts (is_at_digit t) (is_at "}" u) (is_at "," u) (is_at "}" w) (is_at_digit v) h e in
        let is : u ≡ 44 ∷ v = first_is 44 u facts.0 in
        let ends : w ≡ 125 ∷ drop 1 w = first_is 125 w facts.1.0 in
        let none : r.row ≡ [] = no_row r.row r.digits (sym r.begins ∙ x) in
        let zero_low : decimal t ≡ 0 = r.number 0 ∙ (ap decimal none ∙ decimal_end 0) in
        let fits = both_true (nat_le (decimal t) (decimal v)) (nat_le (decimal v) most_turns) f in
        let small : decimal v ≤ most_turns = true_le (decimal v) most_turns fits.1 in
        record {
          mark = codes "," ++ (q.row ++ codes "}");
          text = r.is ∙ (ap (λ l. l ++ u) none ∙ (is ∙ ap (λ l. 44 ∷ l) (q.is ∙ (ap (λ l. q.row ++ l) ends ∙ sym (append_assoc q.row (125 ∷ []) (drop 1 w))))));
          states = subst (λ m. Quantifier (123 ∷ 44 ∷ (q.row ++ 125 ∷ [])) (decimal t) (Some m)) (sym (q.number 0)) (subst (λ n. Quantifier (123 ∷ 44 ∷ (q.row ++ 125 ∷ [])) n (Some (decimal q.row))) (sym zero_low) (at_most q.row (bound_of v q some_upper small)));
        }

pub count_spelled : (t : Text) → is_count t ≡ true → are_bounds (bounds_in t) ≡ true → IsSpelled t (bounds_in t) (past_count t)
count_spelled t h f = go (is_at "}" (past_digits t)) (is_at_digit (drop 1 (past_digits t))) refl refl
  where
    go : (a b : Bool) → is_at "}" (past_digits t) ≡ a → is_at_digit (drop 1 (past_digits t)) ≡ b → IsSpelled t (bounds_in t) (past_count t)
    go true b e x = rw e (closed_count t h e (rw e at f))
    go false true e x = rw (e, x) (two_counts t h e x (rw (e, x) at f))
    go false false e x = rw (e, x) (open_count t h e x (rw (e, x) at f))
