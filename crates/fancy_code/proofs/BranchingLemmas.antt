-- The alternatives that code opens with: how they are found, and what their first bytes tell.
use Rattle.std.proofs.Common.{◌≡◌, ℕ, zero, suc, ◌<◌, List, [], ◌∷◌, ◌++◌, length, Some, inl, inr, refl, sym, ap, subst, ◌∙◌, arith, slice_index, true≢false}
use Rattle.std.specs.Global.{Vec}
use Rattle.std.specs.Option.{unwrap_or, is_some}
use Rattle.std.specs.Prelude.{slice_get}
use Rattle.fancy_tree.specs.declared.tree.Meaning.{Meaning}
use Rattle.fancy_prefilter.specs.KeyTables.{MissesNoRow}
use Rattle.fancy_bytes.specs.Sets.{ByteFlags}
use Rattle.fancy_bytes.specs.Rows.{StandsFrom}
use Rattle.fancy_code.specs.Branches.{AreBranches, Chooses, HasLead, SplitsTo}
use Rattle.fancy_code.specs.Foretold.{AreRows}
use Rattle.fancy_code.specs.Instructions.{Instruction, Split}
use Rattle.fancy_code.specs.Run.{instr_at, run}
use Rattle.fancy_code.specs.Texts.{AreTexts}
use Rattle.fancy_prefilter.specs.declared.branches.Branches.{Branches}
use Rattle.fancy_code.proofs.ForetoldLemmas.{foretells_imply}

-- the splits that code begins with

pub splits_more : (code : List Instruction) (q : ℕ) (hs : List ℕ) (at h next : ℕ) → SplitsTo code q hs at → instr_at code at ≡ Split h next → SplitsTo code q (hs ++ h ∷ []) next
splits_more code q [] at h next same is = (next, ap (instr_at code) same ∙ is, refl)
splits_more code q (g ∷ hs) at h next more is = (more.0, more.1, splits_more code more.0 hs at h next more.2 is)

pub splits_chosen : (code : List Instruction) (q : ℕ) (hs : List ℕ) (at : ℕ) → SplitsTo code q hs at → Chooses code q (hs ++ at ∷ [])
splits_chosen code q [] at same = inl (refl, same)
splits_chosen code q (g ∷ hs) at more = inr (more.0, more.1, splits_chosen code more.0 hs at more.2)

-- one more row

some_same : {X : Type 0} (x y : X) → Some x ≡ Some y → x ≡ y
some_same x y e = ap (λ o. unwrap_or o x) e

slice_get_at : {X : Type 0} (xs : List X) (n : ℕ) → n < length xs → (x : X) × (slice_get xs n ≡ Some x)
slice_get_at [] n lt = absurd (omega (arith, lt))
slice_get_at (x ∷ xs) zero lt = (x, refl)
slice_get_at (x ∷ xs) (suc n) lt = slice_get_at xs n (omega (arith, lt))

pub each_more : {X : Type 0} (P : ℕ → X → Type 0) (xs : List X) (x : X) → ((n : ℕ) (y : X) → slice_get xs n ≡ Some y → P n y) → P (length xs) x
    → (n : ℕ) (y : X) → slice_get (xs ++ x ∷ []) n ≡ Some y → P n y
each_more P [] x all one zero y e = subst (P 0) (some_same x y e) one
each_more P [] x all one (suc n) y e = absurd (true≢false (sym (ap is_some e)))
each_more P (z ∷ zs) x all one zero y e = all zero y e
each_more P (z ∷ zs) x all one (suc n) y e = each_more (λ k v. P (suc k) v) zs x (λ k v. all (suc k) v) one n y e

-- the alternatives of code, by a table of their rows

pub branches_told : (b : Branches) (code : List Instruction) (m : Meaning) (start : ℕ) (rows : List (Vec ByteFlags)) → HasLead code start b.lead → Chooses code b.lead.at b.heads.items → AreRows code m b.heads.items rows → MissesNoRow b.table rows
    → AreTexts code m b.heads.items b.texts.items → AreBranches b code m start
branches_told b code m start rows leads chooses are tells texts = record {
  leads = leads;
  chooses = chooses;
  texts = texts;
  told = λ number lt x limit n s v meant bytes not.
      (let row = slice_get_at rows number (omega (arith, lt, are.count)) in
      foretells_imply (StandsFrom row.0.items x.haystack limit 0 s.place) ⊥ (λ stands. not (tells number row.0 x.haystack limit s.place row.1 bytes stands)) (run x limit code n (slice_index b.heads.items number) s v)
      (are.each number row.0 row.1 x limit n s v 0 s.place meant bytes (omega arith) (λ e. refl) (omega arith)));
}
