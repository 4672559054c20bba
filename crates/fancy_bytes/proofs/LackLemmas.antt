-- Which bytes stand nowhere in a haystack.
use Rattle.std.proofs.Math.Bool.{or-true, or-false}
use Rattle.std.proofs.lemmas.Bool.Decides.{nat_tests}
use Rattle.std.proofs.Common.{◌≡◌, nat_lt, ap₂, ℕ, zero, suc, ◌+◌, ◌<◌, ◌==◌, Bool, true, false, not, ◌&&◌, ◌||◌, List, [], ◌∷◌, ◌++◌, length, take, drop, slice_index, slice_get, Option, Some, None, is_some, refl, sym, ap, ◌∙◌, arith, inl, inr, true≢false, eq-eqb}
use Rattle.std.proofs.lemmas.Bool.Decides.{eqb_tells}
use Rattle.std.proofs.lemmas.List.{take-append-drop}
use Rattle.memchr.specs.Find.{IsFirstByte, is_byte}
use Rattle.fancy_bytes.specs.Items.{includes}
use Rattle.fancy_bytes.specs.Lacks.{includes_all, lacks_some}
use Rattle.fancy_bytes.specs.Sets.{ByteFlags, member, IsSetOf}
use Rattle.fancy_bytes.proofs.BoolLemmas.{either_of, first_holds, second_holds, parts_of, both_hold, not_both, some_below_from, some_found, or_assoc, and_never, lt_test, lt_holds}

pub includes_at : (haystack : List ℕ) (k b : ℕ) → k < length haystack → (slice_index haystack k == b) ≡ true → includes haystack b ≡ true
includes_at [] k b lt e = absurd (omega arith)
includes_at (x ∷ xs) zero b lt e =
    elim (eqb_tells x b) [
      | inl h ↦ first_holds (b == x) (includes xs b) (eq-eqb b x (sym h.1))
      | inr h ↦ not_both (x == b) e h.0
    ]
includes_at (x ∷ xs) (suc k) b lt e = second_holds (b == x) (includes xs b) (includes_at xs k b (omega arith) e)

pub place_of : (haystack : List ℕ) (b : ℕ) → includes haystack b ≡ true → (k : ℕ) × (k < length haystack) × ((slice_index haystack k == b) ≡ true)
place_of [] b e = absurd (true≢false (sym e))
place_of (x ∷ xs) b e =
    elim (either_of (b == x) (includes xs b) e) [
      | inl here ↦ elim (eqb_tells b x) [
        | inl h ↦ (0, omega arith, eq-eqb x b (sym h.1))
        | inr h ↦ not_both (b == x) here h.0
      ]
      | inr later ↦ let p = place_of xs b later in (suc p.0, omega (arith, p.1), p.2)
    ]

-- a byte that stands at a place is one of the haystack
pub stands_included : (haystack : List ℕ) (b k : ℕ) → slice_get haystack k ≡ Some b → includes haystack b ≡ true
stands_included [] b k e = cc
stands_included (x ∷ xs) b zero e = let same : x ≡ b = cc in first_holds (b == x) (includes xs b) (eq-eqb b x (sym same))
stands_included (x ∷ xs) b (suc k) e = second_holds (b == x) (includes xs b) (stands_included xs b k e)

fails : (b : Bool) → (b ≡ true → ⊥) → b ≡ false
fails true never = absurd (never refl)
fails false never = refl

-- what the search for a byte tells
pub found_byte : (haystack : List ℕ) (b : ℕ) (r : Option ℕ) → IsFirstByte (is_byte b) haystack r → is_some r ≡ includes haystack b
found_byte haystack b None none = sym (fails (includes haystack b) (λ e. let p = place_of haystack b e in none p.0 (omega arith) p.1 p.2))
found_byte haystack b (Some k) first = sym (includes_at haystack k b first.0.high first.1)

includes-append : (xs ys : List ℕ) (b : ℕ) → includes (xs ++ ys) b ≡ (includes xs b || includes ys b)
includes-append [] ys b = refl
includes-append (x ∷ xs) ys b = ap (λ (c : Bool). (b == x) || c) (includes-append xs ys b) ∙ sym (or_assoc (b == x) (includes xs b) (includes ys b))

or_comm : (a b : Bool) → (a || b) ≡ (b || a)
or_comm true true = refl
or_comm true false = refl
or_comm false true = refl
or_comm false false = refl

-- what stands in a haystack stands after a place or before it
pub includes-parts : (haystack : List ℕ) (from b : ℕ) → (includes (drop from haystack) b || includes (take from haystack) b) ≡ includes haystack b
includes-parts haystack from b =
    or_comm (includes (drop from haystack) b) (includes (take from haystack) b)
    ∙ sym (includes-append (take from haystack) (drop from haystack) b)
    ∙ ap (λ (h : List ℕ). includes h b) (take-append-drop from haystack)

same_below : (b code : ℕ) → (b ≡ code → ⊥) → nat_lt b code ≡ nat_lt b (code + 1)
same_below b code other = grind (arith, nat_tests)

-- the members up to the one at hand are listed, if it is a member
pub listed_one : (flags : ByteFlags) (items : List ℕ) (code b : ℕ) → includes items b ≡ (nat_lt b code && member flags b) → member flags code ≡ true →
    includes (items ++ (code ∷ [])) b ≡ (nat_lt b (code + 1) && member flags b)
listed_one flags items code b so_far is =
    includes-append items (code ∷ []) b
    ∙ elim (eqb_tells b code) [
      | inl h ↦
          ap (λ (c : Bool). includes items b || (c || false)) h.0
          ∙ or-true (includes items b)
          ∙ sym (ap₂ ◌&&◌ (lt_test b (code + 1) (omega (arith, h.1))) (ap (member flags) h.1 ∙ is))
      | inr h ↦
          ap (λ (c : Bool). includes items b || (c || false)) h.0
          ∙ or-false (includes items b)
          ∙ so_far
          ∙ ap (λ (c : Bool). c && member flags b) (same_below b code h.1)
    ]

-- and if it is none
pub passed_one : (flags : ByteFlags) (items : List ℕ) (code b : ℕ) → includes items b ≡ (nat_lt b code && member flags b) → member flags code ≡ false →
    includes items b ≡ (nat_lt b (code + 1) && member flags b)
passed_one flags items code b so_far is =
    so_far
    ∙ elim (eqb_tells b code) [
      | inl h ↦
          ap (λ (c : Bool). nat_lt b code && c) (ap (member flags) h.1 ∙ is)
          ∙ and_never (nat_lt b code)
          ∙ sym (and_never (nat_lt b (code + 1)))
          ∙ ap (λ (c : Bool). nat_lt b (code + 1) && c) (sym (ap (member flags) h.1 ∙ is))
      | inr h ↦ ap (λ (c : Bool). c && member flags b) (same_below b code h.1)
    ]

-- of a set that has the bytes of a kind those are listed
pub listed_kind : (kind : ℕ → Bool) (flags : ByteFlags) (items : List ℕ) → IsSetOf kind flags → ((b : ℕ) → includes items b ≡ (nat_lt b 256 && member flags b)) →
    (b : ℕ) → includes items b ≡ (nat_lt b 256 && kind b)
listed_kind kind flags items is listed b = listed b ∙ by (nat_lt b 256) refl where
  by : (t : Bool) → nat_lt b 256 ≡ t → (t && member flags b) ≡ (t && kind b)
  by true e = is b (lt_holds b 256 e)
  by false e = refl

-- a list of bytes, up to the one at i
pub includes_all-next : (haystack bytes : List ℕ) (i : ℕ) → i < length bytes → includes_all haystack (drop i bytes) ≡ (includes haystack (slice_index bytes i) && includes_all haystack (drop (i + 1) bytes))
includes_all-next haystack [] i lt = absurd (omega arith)
includes_all-next haystack (x ∷ xs) zero lt = refl
includes_all-next haystack (x ∷ xs) (suc i) lt =
    let there : i + 1 ≡ suc i = omega arith in
    let past : suc i + 1 ≡ suc (suc i) = omega arith in
    includes_all-next haystack xs i (omega arith)
    ∙ ap (λ (k : ℕ). includes haystack (slice_index xs i) && includes_all haystack (drop k xs)) there
    ∙ sym (ap (λ (k : ℕ). includes haystack (slice_index xs i) && includes_all haystack (drop k (x ∷ xs))) past)

-- each byte of the list stands, where none lacks
pub all_of : (haystack bytes : List ℕ) (b : ℕ) → includes_all haystack bytes ≡ true → includes bytes b ≡ true → includes haystack b ≡ true
all_of haystack [] b all e = absurd (true≢false (sym e))
all_of haystack (x ∷ xs) b all e =
    let both = parts_of (includes haystack x) (includes_all haystack xs) all in
    elim (either_of (b == x) (includes xs b) e) [
      | inl here ↦ elim (eqb_tells b x) [ inl h ↦ rw h.1 both.0 | inr h ↦ not_both (b == x) here h.0 ]
      | inr later ↦ all_of haystack xs b both.1 later
    ]

all_where : (haystack bytes : List ℕ) → ((b : ℕ) → includes bytes b ≡ true → includes haystack b ≡ true) → includes_all haystack bytes ≡ true
all_where haystack [] each = refl
all_where haystack (x ∷ xs) each =
    both_hold (includes haystack x) (includes_all haystack xs) (each x (first_holds (x == x) (includes xs x) (eq-eqb x x refl)))
    (all_where haystack xs (λ b e. each b (second_holds (b == x) (includes xs b) e)))

on : (a b : Bool) → (a && not b) ≡ true → (a ≡ true) × (b ≡ false)
on true true e = absurd (true≢false (sym e))
on true false e = (refl, refl)
on false b e = absurd (true≢false (sym e))

lacks : (b c : Bool) → b ≡ true → c ≡ false → (b && not c) ≡ true
lacks true false e f = refl
lacks true true e f = absurd (true≢false f)
lacks false c e f = absurd (true≢false (sym e))

opposite : (a b : Bool) → (a ≡ true → b ≡ false) → (a ≡ false → b ≡ true) → not a ≡ b
opposite true b to from = sym (to refl)
opposite false b to from = sym (from refl)

stays : (b : Bool) → (b ≡ false → ⊥) → b ≡ true
stays true never = refl
stays false never = absurd (never refl)

-- where the bytes of the list are those of a kind, one of these lacks just where not all of the list stand
pub lacks_one : (kind : ℕ → Bool) (haystack bytes : List ℕ) → ((b : ℕ) → includes bytes b ≡ (nat_lt b 256 && kind b)) →
    not (includes_all haystack bytes) ≡ lacks_some kind haystack
lacks_one kind haystack bytes is =
    opposite (includes_all haystack bytes) (lacks_some kind haystack)
    (λ all. fails (lacks_some kind haystack) (λ e.
    let f = some_found 256 (λ b. kind b && not (includes haystack b)) e in
    let told = on (kind f.0) (includes haystack f.0) f.2 in
    not_both (includes haystack f.0) (all_of haystack bytes f.0 all (is f.0 ∙ both_hold (nat_lt f.0 256) (kind f.0) (lt_test f.0 256 f.1) told.0)) told.1))
    (λ some. stays (lacks_some kind haystack) (λ none.
    not_both (includes_all haystack bytes) (all_where haystack bytes (λ b e.
    stays (includes haystack b) (λ never.
    let both = parts_of (nat_lt b 256) (kind b) (sym (is b) ∙ e) in
    not_both (lacks_some kind haystack)
    (some_below_from 256 (λ c. kind c && not (includes haystack c)) b (lt_holds b 256 both.0) (lacks (kind b) (includes haystack b) both.1 never)) none))) some))
