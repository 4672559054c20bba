-- An item leads beyond the place where it stands.
use Rattle.std.proofs.Common.{◌≡◌, ℕ, zero, suc, ◌+◌, ◌<◌, ◌≤◌, Bool, true, false, List, Option, Some, None, if◌then◌else◌, ◌==◌, subst, arith, slice_get}
use Rattle.std.specs.Prelude.{slice_index}
use Rattle.std.proofs.lemmas.Option.{none-some, same_Some}
use Rattle.std.proofs.lemmas.Str.{len_utf8_bounds}
use Rattle.fancy_tree.specs.declared.tree.Meaning.{Meaning}
use Rattle.fancy_tree.specs.declared.tree.Meaning.TheVariants.{Unicode, Bytes, AsciiText}
use Rattle.fancy_input.specs.Places.{char_at, is_continuation, prev_place}
use Rattle.fancy_meaning.specs.Context.{Context, State, Unit_at, one_character, one_byte, unit_in, unit_at, past_item, past_byte, previous_in, units_back, option_to}
use Rattle.fancy_meaning.specs.Backreference.{past_backreference}
use Rattle.fancy_meaning.proofs.ForwardLemmas.{PastIs, past_backreference-past}

-- the unit, if there is one, is not empty
IsWide : Option Unit_at → Type 0
IsWide None = Unit {0}
IsWide (Some u) = 0 < u.width

-- what is beyond p, if anything
IsBeyond : ℕ → Option ℕ → Type 0
IsBeyond p None = Unit {0}
IsBeyond p (Some q) = p < q

character_is_wide : (c : Option ℕ) → IsWide (one_character c)
unfolding IsWide
character_is_wide None = tt
character_is_wide (Some c) = omega (arith, (len_utf8_bounds c).0)

byte_is_wide : (b : Option ℕ) → IsWide (one_byte b)
unfolding IsWide
byte_is_wide None = tt
byte_is_wide (Some b) = omega arith

unit_is_wide : (m : Meaning) (haystack : List ℕ) (p : ℕ) → IsWide (unit_in m haystack p)
unit_is_wide Unicode haystack p = character_is_wide (char_at haystack p)
unit_is_wide Bytes haystack p = byte_is_wide (slice_get haystack p)
unit_is_wide AsciiText haystack p = character_is_wide (char_at haystack p)

beyond_if : (b : Bool) (p w : ℕ) → 0 < w → IsBeyond p (if b then Some (p + w) else None)
unfolding IsBeyond
beyond_if true p w h = omega arith
beyond_if false p w h = tt

beyond_unit : (test : ℕ → Bool) (p : ℕ) (u : Option Unit_at) → IsWide u → IsBeyond p (option_to u None (λ u. if test u.code then Some (p + u.width) else None))
unfolding IsWide IsBeyond
beyond_unit test p None h = tt
beyond_unit test p (Some u) h = beyond_if (test u.code) p u.width h

beyond_byte : (byte p : ℕ) (b : Option ℕ) → IsBeyond p (option_to b None (λ b. if b == byte then Some (p + 1) else None))
unfolding IsBeyond
beyond_byte byte p None = tt
beyond_byte byte p (Some b) = beyond_if (b == byte) p 1 (omega arith)

is_beyond : (p q : ℕ) (o : Option ℕ) → IsBeyond p o → o ≡ Some q → p < q
unfolding IsBeyond
is_beyond p q None h e = absurd (none-some q e)
is_beyond p q (Some r) h e = subst (λ (y : ℕ). p < y) (same_Some _ _ e) h

pub item_beyond : (x : Context) (test : ℕ → Bool) (p q : ℕ) → past_item x test p ≡ Some q → p < q
unfolding past_item unit_at
item_beyond x test p q e = is_beyond p q _ (beyond_unit test p _ (unit_is_wide x.meaning x.haystack p)) e

pub byte_beyond : (x : Context) (byte p q : ℕ) → past_byte x byte p ≡ Some q → p < q
unfolding past_byte
byte_beyond x byte p q e = is_beyond p q _ (beyond_byte byte p (slice_get x.haystack p)) e

prev_place_low : (haystack : List ℕ) (p : ℕ) → prev_place haystack p ≤ p
unfolding prev_place
prev_place_low haystack zero = omega arith
prev_place_low haystack (suc p) = by (is_continuation (slice_index haystack p)) (prev_place_low haystack p) where
  by : (b : Bool) → prev_place haystack p ≤ p → (if b then prev_place haystack p else p) ≤ suc p
  by true low = omega (arith, low)
  by false low = omega arith

previous_low : (m : Meaning) (haystack : List ℕ) (p : ℕ) → previous_in m haystack p ≤ p
previous_low Unicode haystack p = prev_place_low haystack p
previous_low Bytes haystack p = omega arith
previous_low AsciiText haystack p = prev_place_low haystack p

-- units back is no place further on
pub back_low : (x : Context) (n p r : ℕ) → units_back x n p ≡ Some r → r ≤ p
unfolding units_back
back_low x zero p r e = let same : p ≡ r = same_Some _ _ e in omega (arith, same)
back_low x (suc n) zero r e = absurd (none-some r e)
back_low x (suc n) (suc p) r e =
    omega (arith, back_low x n (previous_in x.meaning x.haystack (suc p)) r e, previous_low x.meaning x.haystack (suc p))

not_before : (p q : ℕ) (o : Option ℕ) → PastIs p o → o ≡ Some q → p ≤ q
unfolding PastIs
not_before p q None h e = absurd (none-some q e)
not_before p q (Some r) h e = subst (λ (y : ℕ). p ≤ y) (same_Some _ _ e) h

pub recall_beyond : (x : Context) (folded : Bool) (number : ℕ) (s : State) (p : ℕ) → past_backreference x folded number s ≡ Some p → s.place ≤ p
recall_beyond x folded number s p e = not_before s.place p (past_backreference x folded number s) (past_backreference-past x folded number s) e
