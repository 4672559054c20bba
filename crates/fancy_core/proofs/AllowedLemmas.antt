-- The searches of a replacement keep within their limits.
use Rattle.std.proofs.Common.{ℕ, zero, suc, ◌-◌, ◌≡◌, Bool, true, false, List, [], ◌∷◌, Option, None, Some, Result, Ok, Err, IfOk, sym, subst, ◌∙◌, inl, inr, true≢false, arith}
use Rattle.std.proofs.lemmas.Bool.Decides.{eqb_tells}
use Rattle.fancy_input.specs.declared.input.Request.{Request}
use Rattle.fancy_search.specs.declared.program.Program.{Program}
use Rattle.fancy_search.specs.MatchList.{Scan, MatchItem}
use Rattle.fancy_search.specs.Remaining.{Standing, scan, standing_after, items_left, allows_at, AllowsStep, AllowsUpTo}
use Rattle.fancy_input.specs.Requests.{whole}
use Rattle.fancy_core.specs.declared.regex.Regex.{Regex}
use Rattle.fancy_core.specs.ItemLimits.{limit_of, is_reached, one_fewer}
use Rattle.fancy_core.specs.Regexes.{program_in}
use Rattle.fancy_core.specs.Replacing.{AllowsReplacing}

module _ (allows : ℕ → Bool → Type 0) (k : Scan) where
  -- once the limit is reached nothing is searched
  pub allows_reached : (left : Option ℕ) (st : Standing) (is : List MatchItem) → is_reached left ≡ true → AllowsUpTo allows k left st is
  allows_reached None st is e = absurd (true≢false (sym e))
  allows_reached (Some zero) st is e = tt
  allows_reached (Some (suc n)) st is e = elim (eqb_tells (suc n) 0) [ inl h ↦ (let none = h.1 in absurd (omega (arith, none))) | inr h ↦ absurd (true≢false (sym e ∙ h.0)) ]

  -- the search that finds none is the last
  pub allows_ended : (left : Option ℕ) (st : Standing) (is : List MatchItem) → is ≡ [] → AllowsStep allows k st → AllowsUpTo allows k left st is
  allows_ended None st is e step = rw e step
  allows_ended (Some zero) st is e step = tt
  allows_ended (Some (suc n)) st is e step = rw e step

  -- after an item the others are searched for
  pub allows_further : (left : Option ℕ) (st st_after : Standing) (i : MatchItem) (is later : List MatchItem) → is_reached left ≡ false → is ≡ i ∷ later → st_after ≡ standing_after k i → AllowsStep allows k st
      → AllowsUpTo allows k (one_fewer left) st_after later → AllowsUpTo allows k left st is
  allows_further None st st_after i is later h e stands step rest = rw e (step, rw stands at rest)
  allows_further (Some zero) st st_after i is later h e stands step rest = tt
  allows_further (Some (suc n)) st st_after i is later h e stands step rest = let q : suc n - 1 ≡ n = omega arith in rw e (step, rw (q, stands) at rest)

-- the searches are the same from each start
pub allows_moved : (p : Program) (t u : List ℕ) (r q : Request) (left : Option ℕ) (st : Standing) (is : List MatchItem) → u ≡ t → q ≡ record r { start = q.start }
    → AllowsUpTo (allows_at p u q) (scan p true u q) left st is → AllowsUpTo (allows_at p t r) (scan p true t r) left st is
allows_moved p t u r q left st is e f h =
    let here = subst (λ (x : List ℕ). AllowsUpTo (allows_at p x q) (scan p true x q) left st is) e h in
    subst (λ (x : Request). AllowsUpTo (allows_at p t x) (scan p true t x) left st is) f here

-- what is searched before the first match is found is all that a replacement searches
pub allows_first : (regex : Regex) (t u : List ℕ) (limit : ℕ) (left : Option ℕ) (r : Request) (c b e : Bool) → u ≡ t → r ≡ whole t → left ≡ limit_of limit → c ≡ true → b ≡ false → e ≡ false
    → AllowsUpTo (allows_at (program_in regex) u r) (scan (program_in regex) true u r) left (record { start = r.start; continues = c; skips_empty = b; ended = e })
    (items_left (scan (program_in regex) true u r) (record { start = r.start; continues = c; skips_empty = b; ended = e }))
    → AllowsReplacing regex t limit
allows_first regex t u limit left r c b e same whole_text limited goes_on skips_none going h = rw (same, whole_text, limited, goes_on, skips_none, going) at h

-- what holds whatever was answered holds of an answer
pub of_answer : {A E : Type 0} (P : Type 0) → P → (r : Result A E) → IfOk r (λ _. P)
of_answer P p (Ok a) = p
of_answer P p (Err e) = tt

-- what follows from two facts of an answer
pub if_both : {A E : Type 0} (P Q W : A → Type 0) → ((a : A) → P a → Q a → W a) → (r : Result A E) → IfOk r P → IfOk r Q → IfOk r W
if_both P Q W f (Ok a) p q = f a p q
if_both P Q W f (Err e) p q = tt
