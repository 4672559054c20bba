-- Rows of prices tell what attempts cost.
use Rattle.std.proofs.Common.{◌≡◌, ℕ, zero, suc, ◌<◌, ◌∙◌, Bool, true, false, ◌&&◌, List, [], ◌∷◌, ◌++◌, length, Option, Some, None, IfSome, refl, sym, ap, subst, arith, slice_get, slice_index}
use Rattle.std.specs.Prelude.{slice_index_or, if◌then◌else◌}
use Rattle.std.proofs.lemmas.Bool.{lt-ltb}
use Rattle.std.proofs.lemmas.Option.{IfSome_then}
use Rattle.std.specs.Borrow.{Bor}
use Rattle.fancy_bytes.specs.Sets.{member}
use Rattle.fancy_code.specs.declared.code.Code.{Code}
use Rattle.fancy_prices.specs.declared.facts.Before.{Before}
use Rattle.fancy_prices.specs.declared.facts.Before.TheVariants.{Among, Nothing}
use Rattle.fancy_prices.specs.declared.kinds.Kind.{Kind}
use Rattle.fancy_prices.specs.declared.price.Price.{Price}
use Rattle.fancy_prices.specs.declared.rows.Row.{Row}
use Rattle.fancy_prices.specs.declared.rows.Rows.{Rows}
use Rattle.fancy_prices.specs.Facts.{IsOfKind}
use Rattle.fancy_prices.specs.Rows.{TellsAfter, TellsByte, TellsRow}
use Rattle.fancy_prices.specs.Entries.{TellRows}
use Rattle.fancy_prices.specs.Around.{number_before, price_in}

get_left : {A : Type 0} (xs ys : List A) (k : ℕ) → k < length xs → slice_get (xs ++ ys) k ≡ slice_get xs k
get_left [] ys k lt = absurd (omega (arith, lt))
get_left (x ∷ xs) ys zero lt = refl
get_left (x ∷ xs) ys (suc k) lt = get_left xs ys k (omega (arith, lt))

get_seam : {A : Type 0} (xs : List A) (y : A) → slice_get (xs ++ y ∷ []) (length xs) ≡ Some y
get_seam [] y = refl
get_seam (x ∷ xs) y = get_seam xs y

-- what is told of a place tells of each where it holds
module _ (code : Code) (before : Option ℕ) (here : ℕ) (o : Option Price) where
  told_of_before : (k : Before) → IsOfKind k before → TellsByte code (Some k) here o → TellsAfter code before here o
  told_of_before k of tells =
      IfSome_then o tells (λ c dies. (
        λ x limit n s v meant stands is.
            dies.0 x limit n s v meant (record { here = stands; before = subst (IsOfKind k) (sym is) of }),
        dies.1,
      ))

  told_of_any : TellsByte code None here o → TellsAfter code before here o
  told_of_any tells = IfSome_then o tells (λ c dies. (λ x limit n s v meant stands is. dies.0 x limit n s v meant (record { here = stands; before = tt }), dies.1))

module _ (code : Code) (before : Option ℕ) (here : ℕ) (small : here < 256) where
  -- a row at this number
  at : (r : Rows) (n : ℕ) (row : Row) (prices : List (Option Price)) → number_before r.numbers before ≡ n → slice_get r.rows.items n ≡ Some row → row.prices ≡ prices
      → TellsAfter code before here (slice_index_or prices here None) → TellsAfter code before here (price_in (slice_get r.rows.items (number_before r.numbers before)) here)
  at r n row prices number is same tells =
      subst (λ (k : ℕ). TellsAfter code before here (price_in (slice_get r.rows.items k) here)) (sym number)
      (subst (λ (o : Option Row). TellsAfter code before here (price_in o here)) (sym is)
      (subst (λ (p : List (Option Price)). TellsAfter code before here (slice_index_or p here None)) (sym same) tells))

-- one row serves after anything
pub alike_tell : (code : Code) (r : Rows) (row : Row) (plain : List (Option Price)) → r.rows.items ≡ row ∷ [] → row.prices ≡ plain → ((b : ℕ) → b < 256 → slice_index r.numbers b ≡ 0)
    → TellsRow code None plain → TellRows code r
alike_tell code r row plain items same zeros tells before lt here small =
    at code before here small r 0 row plain (first before lt) (ap (λ (l : List Row). slice_get l 0) items) same
    (told_of_any code before here (slice_index_or plain here None) (tells here small)) where
      first : (o : Option ℕ) → IfSome o (λ b. b < 256) → number_before r.numbers o ≡ 0
      first None lt = refl
      first (Some b) lt = zeros b lt

-- one serves after nothing, and one after each byte
pub two_tell : (code : Code) (r : Rows) (start row : Row) (nothing plain : List (Option Price)) → r.rows.items ≡ start ∷ row ∷ [] → start.prices ≡ nothing → row.prices ≡ plain
    → ((b : ℕ) → b < 256 → slice_index r.numbers b ≡ 1) → TellsRow code (Some Nothing) nothing → TellsRow code None plain → TellRows code r
two_tell code r start row nothing plain items same_start same ones tells tell None lt here small =
    at code None here small r 0 start nothing refl (ap (λ (l : List Row). slice_get l 0) items) same_start
    (told_of_before code None here (slice_index_or nothing here None) Nothing refl (tells here small))
two_tell code r start row nothing plain items same_start same ones tells tell (Some b) lt here small =
    at code (Some b) here small r 1 row plain (ones b lt) (ap (λ (l : List Row). slice_get l 1) items) same
    (told_of_any code (Some b) here (slice_index_or plain here None) (tell here small))

-- one more serves after the bytes of a kind
pub more_tell : (code : Code) (old r : Rows) (row : Row) (kind : Bor Kind) (prices : List (Option Price)) → r.rows.items ≡ old.rows.items ++ row ∷ [] → row.prices ≡ prices
    → ((b : ℕ) → b < 256 → slice_index r.numbers b ≡ (if member kind.now.bytes b then (length old.rows.items) else (slice_index old.numbers b)))
    → TellsRow code (Some (Among kind)) prices → TellRows code old → TellRows code r
more_tell code old r row kind prices items same numbers tells others before lt here small = by before lt where
  kept : (o : Option ℕ) → IfSome o (λ b. b < 256) → number_before r.numbers o ≡ number_before old.numbers o → number_before old.numbers o < length old.rows.items
      → TellsAfter code o here (price_in (slice_get r.rows.items (number_before r.numbers o)) here)
  kept o within number inside =
      subst (λ (k : ℕ). TellsAfter code o here (price_in (slice_get r.rows.items k) here)) (sym number)
      (subst (λ (g : Option Row). TellsAfter code o here (price_in g here))
      (sym (ap (λ (l : List Row). slice_get l (number_before old.numbers o)) items ∙ get_left old.rows.items (row ∷ []) (number_before old.numbers o) inside))
      (others o within here small))

  by : (o : Option ℕ) → IfSome o (λ b. b < 256) → TellsAfter code o here (price_in (slice_get r.rows.items (number_before r.numbers o)) here)
  by None within = kept None within refl (omega (arith, old.some, old.rows.ok.0))
  by (Some b) within = of (member kind.now.bytes b) refl where
    of : (m : Bool) → member kind.now.bytes b ≡ m → TellsAfter code (Some b) here (price_in (slice_get r.rows.items (number_before r.numbers (Some b))) here)
    of true is =
        at code (Some b) here small r (length old.rows.items) row prices (numbers b within ∙ ap (λ (c : Bool). if c then (length old.rows.items) else (slice_index old.numbers b)) is)
        (ap (λ (l : List Row). slice_get l (length old.rows.items)) items ∙ get_seam old.rows.items row) same
        (told_of_before code (Some b) here (slice_index_or prices here None) (Among kind)
        (b, refl, ap (λ (c : Bool). c && member kind.now.bytes b) (lt-ltb b 256 within) ∙ is) (tells here small))
    of false is = kept (Some b) within (numbers b within ∙ ap (λ (c : Bool). if c then (length old.rows.items) else (slice_index old.numbers b)) is) (omega (arith, old.numbered b within, old.rows.ok.0))
