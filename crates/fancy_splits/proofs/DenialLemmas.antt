-- What one byte tells of a look-around, from what is told of its body.
use Rattle.std.proofs.Common.{◌≡◌, ℕ, zero, suc, ◌+◌, ◌<◌, ◌&&◌, nat_lt, Bool, true, false, List, length, Option, Some, inl, inr, refl, sym, ap, ◌∙◌, subst, replicate, lt-ltb, get_or-set_same, get_or-set_other}
use Rattle.std.specs.Prelude.{slice_index_or, slice_set}
use Rattle.std.proofs.lemmas.Bool.{cases_eq}
use Rattle.fancy_bytes.specs.Sets.{ByteFlags, member}
use Rattle.fancy_tree.specs.declared.tree.Meaning.{Meaning}
use Rattle.fancy_meaning.specs.Context.{moved_to}
use Rattle.fancy_meaning.specs.Events.{ends_look}
use Rattle.fancy_code.specs.Instructions.{Instruction}
use Rattle.fancy_code.specs.Items.{ReadsByte}
use Rattle.fancy_code.specs.Run.{Raw, Note, fetched, before, run}
use Rattle.fancy_prices.specs.declared.facts.Before.{Before}
use Rattle.fancy_prices.specs.declared.facts.Ending.TheVariants.{Last}
use Rattle.fancy_prices.specs.Facts.{IsOfKind}
use Rattle.fancy_prices.specs.Prices.{Dies, FindsBehind, Meets, StopsNeverBehind}
use Rattle.fancy_prices.proofs.DyingWays.{finds_none}
use Rattle.fancy_prices.proofs.FoundBehind.{found_behind, get_within}
use Rattle.fancy_splits.specs.declared.denials.Sight.{Sight}
use Rattle.fancy_splits.specs.declared.denials.Sight.TheVariants.{Unclear}
use Rattle.fancy_splits.specs.Denials.{AreSights, FindsAt, IsSight, MissesAt}
use Rattle.fancy_splits.specs.Splits.{StopsAt, byte_alone}

pub misses_ahead : (code : List Instruction) (meaning : Meaning) (b m r body : ℕ) → Dies code meaning (byte_alone b) m r body → MissesAt code meaning false b m r body
misses_ahead code meaning b m r body dies x limit n s v meant here = finds_none code meaning (byte_alone b) false m r body dies x limit n s v meant (record { here = here; before = tt })

-- an item is read, and the way stops
pub finds_ahead : (code : List Instruction) (meaning : Meaning) (b body last next : ℕ) → ReadsByte code meaning b body last → StopsAt code last next → FindsAt code meaning false b body
finds_ahead code meaning b body last next reads stops x zero s v meant here = tt
finds_ahead code meaning b body last next reads stops x (suc n) s v meant here =
    subst (Meets (ends_look false s.place)) (sym (reads x (length x.haystack) n s v meant here (get_within x.haystack s.place b here))) (by n) where
      by : (n : ℕ) → Meets (ends_look false s.place) (before (Note fetched) (run x (length x.haystack) code n last (moved_to s (s.place + 1)) v))
      by zero = tt
      by (suc k) = subst (λ (o : Option (List Raw)). Meets (ends_look false s.place) (before (Note fetched) o)) (sym (stops x (length x.haystack) k (moved_to s (s.place + 1)) v)) refl

-- a byte that is one of a kind
pub byte_of : (bytes : ByteFlags) (b : ℕ) → b < 256 → member bytes b ≡ true → (nat_lt b 256 && member bytes b) ≡ true
byte_of bytes b lt is = ap (λ (c : Bool). c && member bytes b) (lt-ltb b 256 lt) ∙ is

-- what is told of bytes of a kind is told of each of them
module _ (code : List Instruction) (meaning : Meaning) (kind : Before) (body b : ℕ) (of : IsOfKind kind (Some b)) where
  pub misses_of : (m r : ℕ) → StopsNeverBehind code (Last kind) m r body → MissesAt code meaning true b m r body
  misses_of m r never x limit n s v meant sees = never x limit n s v s.place (subst (IsOfKind kind) (sym sees) of)

  pub finds_of : FindsBehind code kind body → FindsAt code meaning true b body
  finds_of finds x n s v meant sees = found_behind code kind body finds x s v (subst (IsOfKind kind) (sym sees) of) n

-- one of them is another one
module _ (code : List Instruction) (meaning : Meaning) (behind : Bool) (body : ℕ) where
  pub sights_set : (sights : List Sight) (i : ℕ) (t : Sight) → i < length sights → IsSight code meaning behind body i t → AreSights code meaning behind body sights
      → AreSights code meaning behind body (slice_set sights i t)
  sights_set sights i t within is all b lt =
      elim (cases_eq b i) [
        | inl same ↦ subst (λ (k : ℕ). of k (slice_set sights i t)) (sym same) (subst (IsSight code meaning behind body i) (sym (get_or-set_same sights i t Unclear within)) is)
        | inr other ↦ subst (IsSight code meaning behind body b) (sym (get_or-set_other sights i b t Unclear other)) (all b lt)
      ]
    where
      of : ℕ → List Sight → Type 0
      of k l = IsSight code meaning behind body k (slice_index_or l k Unclear)

  pub all_unclear : (n b : ℕ) → IsSight code meaning behind body b (slice_index_or (replicate n Unclear) b Unclear)
  all_unclear n b = subst (IsSight code meaning behind body b) (sym (by n b)) tt where
    by : (n b : ℕ) → slice_index_or (replicate n Unclear) b Unclear ≡ Unclear
    by zero b = refl
    by (suc n) zero = refl
    by (suc n) (suc b) = by n b
