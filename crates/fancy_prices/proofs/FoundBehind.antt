-- Look-behinds that find one ASCII byte.
use Rattle.std.proofs.Common.{◌≡◌, ℕ, zero, suc, ◌+◌, ◌<◌, ◌==◌, Bool, true, false, ◌&&◌, nat_lt, List, [], ◌∷◌, length, Option, Some, None, if◌then◌else◌, refl, sym, ap, ◌∙◌, subst, arith, slice_get, slice_index, eq-eqb, ltb-true}
use Rattle.std.proofs.lemmas.Bool.{le-leb}
use Rattle.std.proofs.lemmas.Bool.Decides.{nat_tests}
use Rattle.std.proofs.lemmas.Str.{length-encode}
use Rattle.std.specs.Char.{len_utf8}
use Rattle.fancy_tree.specs.declared.tree.Meaning.{Meaning}
use Rattle.fancy_tree.specs.declared.tree.Meaning.TheVariants.{Unicode, Bytes, AsciiText}
use Rattle.fancy_tree.specs.Sets.{has}
use Rattle.fancy_input.specs.Lines.{byte_before}
use Rattle.fancy_input.specs.Places.{char_at, is_continuation}
use Rattle.fancy_input.proofs.CharacterLemmas.{char_at-ascii}
use Rattle.fancy_input.proofs.PlaceLemmas.{prev_place_stop}
use Rattle.fancy_meaning.specs.Context.{Context, State, Unit_at, moved_to, one_character, option_to, past_item, previous_in, unit_at, unit_in, units_back}
use Rattle.fancy_meaning.specs.Events.{any, ends_look}
use Rattle.fancy_code.specs.Instructions.{Instruction, Back, Deny, Match, Member}
use Rattle.fancy_code.specs.Run.{Raw, Note, Stop, choice_opened, returned, fetched, before, guard, fenced, halt, onward, instr_at, act, run}
use Rattle.fancy_bytes.proofs.ItemBytesLemmas.{low_text}
use Rattle.fancy_prices.specs.declared.facts.Before.{Before}
use Rattle.fancy_prices.specs.declared.facts.Facts.{Facts}
use Rattle.fancy_prices.specs.Facts.{IsAlways, IsByteOf, IsOfKind}
use Rattle.fancy_prices.specs.Prices.{Costs, Dies, FindsBehind, IsDenied, Meets, MeetsIn}
use Rattle.fancy_prices.proofs.BeginLemmas.{get_index}
use Rattle.fancy_prices.proofs.DyingWays.{dies_by, opened, read}
use Rattle.fancy_prices.proofs.FactLemmas.{kind_before}
use Rattle.fancy_prices.proofs.FlagLemmas.{both}

pub get_within : (h : List ℕ) (p b : ℕ) → slice_get h p ≡ Some b → p < length h
get_within [] p b e = cc
get_within (a ∷ h) zero b e = omega arith
get_within (a ∷ h) (suc p) b e = omega (arith, get_within h p b e)

-- a unit of one byte
abbrev single : ℕ → Unit_at
single b = record { code = b; width = 1 }

module _ (h : List ℕ) (p b : ℕ) (stands : slice_get h p ≡ Some b) (low : b < 128) where
  there : slice_index h p ≡ b
  there = get_index h p b stands

  character_there : char_at h p ≡ Some b
  character_there = char_at-ascii h p (get_within h p b stands) (omega (arith, there, low)) ∙ ap (λ (c : ℕ). Some c) there

  width : len_utf8 b ≡ 1
  width = sym (length-encode b) ∙ ap length (low_text b low)

  as_character : one_character (char_at h p) ≡ Some (single b)
  as_character = ap one_character character_there ∙ ap (λ (n : ℕ). Some (record { code = b; width = n })) width

  unit_low : (m : Meaning) → unit_in m h p ≡ Some (single b)
  unit_low Unicode = as_character
  unit_low Bytes = ap (λ (o : Option ℕ). option_to o None (λ c. Some (single c))) stands
  unit_low AsciiText = as_character

-- an ASCII byte is an item by itself
low_item : (x : Context) (test : ℕ → Bool) (p b : ℕ) → slice_get x.haystack p ≡ Some b → b < 128 → past_item x test p ≡ (if test b then Some (p + 1) else None)
unfolding past_item unit_at
low_item x test p b stands low =
    ap (λ (o : Option Unit_at). option_to o None (λ u. if test u.code then Some (p + u.width) else None)) (unit_low x.haystack p b stands low x.meaning)

-- one unit back over an ASCII byte
module _ (h : List ℕ) (p b : ℕ) (stands : slice_get h p ≡ Some b) (low : b < 128) where
  no_continuation : is_continuation (slice_index h p) ≡ false
  no_continuation = ap is_continuation (get_index h p b stands) ∙ low_is b low where
    low_is : (c : ℕ) → c < 128 → is_continuation c ≡ false
    low_is c lt = grind (arith, nat_tests)

  back_low : (m : Meaning) → previous_in m h (suc p) ≡ p
  back_low Unicode = prev_place_stop h p no_continuation
  back_low Bytes = omega arith
  back_low AsciiText = prev_place_stop h p no_continuation

one_back : (x : Context) (p b : ℕ) → slice_get x.haystack p ≡ Some b → b < 128 → units_back x 1 (suc p) ≡ Some p
unfolding units_back
one_back x p b stands low = ap (λ (q : ℕ). Some q) (back_low x.haystack p b stands low x.meaning)

meets_read : (wanted : State → Bool) (o : Option (List Raw)) → Meets wanted o → Meets wanted (before (Note fetched) o)
meets_read wanted None h = tt
meets_read wanted (Some w) h = h

-- a region whose body meets what is wanted: nothing follows
module _ (wanted : State → Bool) (missed : Option (List Raw)) where
  guard_met : (w : List Raw) → MeetsIn wanted w → Costs 0 0 (guard halt wanted missed w)
  guard_met [] h = absurd h
  guard_met (Note choice_opened ∷ w) h = absurd h
  guard_met (Note returned ∷ w) h = absurd h
  guard_met (Note fetched ∷ w) h = read 0 0 (guard halt wanted missed w) (guard_met w h)
  guard_met (Stop q s v ∷ w) h = subst (λ (b : Bool). Costs 0 0 (if b then (Some []) else (guard halt wanted missed w))) (sym h) (refl, refl)

  fenced_met : (o : Option (List Raw)) → Meets wanted o → Costs 0 0 (fenced halt wanted missed o)
  fenced_met None h = tt
  fenced_met (Some w) h = guard_met w h

-- the code goes back over one byte, reads it, and stops where it began
module _ (code : List Instruction) (kind : Before) (x : Context) (p b : ℕ) (stands : slice_get x.haystack p ≡ Some b) (low : b < 128) where
  by_steps : (wanted : State → Bool) (at : ℕ) (i : Instruction) → instr_at code at ≡ i → (s : State) (v : List ℕ)
      → ((n : ℕ) → Meets wanted (act x (length x.haystack) at i (run x (length x.haystack) code n) (run x (length x.haystack) code n) s v))
      → (n : ℕ) → Meets wanted (run x (length x.haystack) code n at s v)
  by_steps wanted at i is s v h zero = tt
  by_steps wanted at i is s v h (suc n) =
      meets_read wanted (act x (length x.haystack) at (instr_at code at) (run x (length x.haystack) code n) (run x (length x.haystack) code n) s v)
      (subst (λ (j : Instruction). Meets wanted (act x (length x.haystack) at j (run x (length x.haystack) code n) (run x (length x.haystack) code n) s v)) (sym is) (h n))

  module _ (edges : List ℕ) (next : ℕ) (ends : instr_at code next ≡ Match) (passes : has edges b ≡ true) where
    stops : (s : State) (v : List ℕ) (n : ℕ) → Meets (λ t. t.place == p + 1) (run x (length x.haystack) code n next (moved_to s (p + 1)) v)
    stops s v = by_steps (λ t. t.place == p + 1) next Match ends (moved_to s (p + 1)) v (λ n. eq-eqb (p + 1) (p + 1) refl)

    reads : (s : State) (v : List ℕ) → s.place ≡ p → (n : ℕ)
        → Meets (λ t. t.place == p + 1) (onward (length x.haystack) (run x (length x.haystack) code n) next s v (past_item x (has edges) s.place))
    reads s v at n =
        subst (λ (o : Option ℕ). Meets (λ t. t.place == p + 1) (onward (length x.haystack) (run x (length x.haystack) code n) next s v o))
        (sym (ap (past_item x (has edges)) at ∙ low_item x (has edges) p b stands low ∙ ap (λ (c : Bool). if c then Some (p + 1) else None) passes))
        (subst (λ (c : Bool). Meets (λ t. t.place == p + 1) (if c then (run x (length x.haystack) code n next (moved_to s (p + 1)) v) else (Some [])))
        (sym (le-leb (p + 1) (length x.haystack) (omega (arith, get_within x.haystack p b stands)))) (stops s v n))

    meets_one : (at item : ℕ) → instr_at code at ≡ Back 1 item → instr_at code item ≡ Member edges next → (s : State) (v : List ℕ) → s.place ≡ p + 1
        → (n : ℕ) → Meets (λ t. t.place == p + 1) (run x (length x.haystack) code n at s v)
    meets_one at item back member s v place =
        by_steps (λ t. t.place == p + 1) at (Back 1 item) back s v
        (λ n. subst (λ (o : Option ℕ). Meets (λ t. t.place == p + 1) (option_to o (Some []) (λ q. run x (length x.haystack) code n item (moved_to s q) v)))
        (sym (ap (units_back x 1) (place ∙ omega arith) ∙ one_back x p b stands low))
        (by_steps (λ t. t.place == p + 1) item (Member edges next) member (moved_to s p) v (λ m. reads (moved_to s p) v refl m) n))

-- what stands before is such a byte
pub found_behind : (code : List Instruction) (kind : Before) (body : ℕ) → FindsBehind code kind body → (x : Context) (s : State) (v : List ℕ) → IsOfKind kind (byte_before x.haystack s.place)
    → (n : ℕ) → Meets (λ t. t.place == s.place) (run x (length x.haystack) code n body s v)
found_behind code kind body finds x s v of = by s.place refl of where
  each : IsAlways kind (λ b. nat_lt b 128 && has finds.2.0 b)
  each = finds.2.4

  by : (p : ℕ) → s.place ≡ p → IsOfKind kind (byte_before x.haystack p) → (n : ℕ) → Meets (λ t. t.place == p) (run x (length x.haystack) code n body s v)
  by zero at k n = absurd (none_some (each None k)) where
    none_some : IsByteOf (λ b. nat_lt b 128 && has finds.2.0 b) None → ⊥
    none_some o = cc
  by (suc p) at k n =
      let o = each (byte_before x.haystack (suc p)) k in
      let parts = both (nat_lt o.0 128) (has finds.2.0 o.0) o.2 in
      subst (λ (j : ℕ). Meets (λ t. t.place == j) (run x (length x.haystack) code n body s v)) (omega arith)
      (meets_one code kind x p o.0 o.1 (ltb-true o.0 128 parts.0) finds.2.0 finds.2.1 finds.2.3 parts.1 body finds.0 finds.1 finds.2.2 s v (at ∙ omega arith) n)

-- so the negated look-behind takes its choice, and none back
pub dies_denied : (code : List Instruction) (meaning : Meaning) (f : Facts) (behind : Bool) (at body next : ℕ) → instr_at code at ≡ Deny behind body next → IsDenied code behind f body
    → Dies code meaning f 1 0 at
dies_denied code meaning f behind at body next is denied =
    dies_by code meaning f 1 0 at (Deny behind body next) is
    (λ x limit n s v meant stands.
    let rest = before (Note returned) (run x limit code n next s v) in
    opened any 0 0 (fenced halt (ends_look behind s.place) rest (run x (length x.haystack) code n body s v))
    (subst (λ (c : Bool). Costs 0 0 (fenced halt (ends_look c s.place) rest (run x (length x.haystack) code n body s v))) (sym denied.1)
    (fenced_met (λ t. t.place == s.place) rest (run x (length x.haystack) code n body s v)
    (found_behind code denied.0 body denied.3 x s v (kind_before f denied.0 denied.2 x.haystack s.place stands) n))))
