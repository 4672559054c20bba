-- Where bytes lead from choices: one choice more before a passage.
use Rattle.std.proofs.Common.{◌≡◌, ◌≢◌, ℕ, zero, suc, ◌+◌, List, [], ◌∷◌, length, Option, Some, None, Result, Ok, Err, IfOk, IfSome, refl, sym, subst, arith}
use Rattle.std.specs.Prelude.{slice_get}
use Rattle.std.proofs.Math.Logic.{∥∥₁_map}
use Rattle.fancy_tree.specs.declared.tree.Meaning.{Meaning}
use Rattle.fancy_code.specs.Instructions.{Instruction, Enter, Split}
use Rattle.fancy_code.specs.Run.{instr_at}
use Rattle.fancy_splits.specs.declared.choices.Onward.{Onward}
use Rattle.fancy_splits.specs.declared.choices.Onward.TheVariants.{Ends, Goes, Reads}
use Rattle.fancy_splits.specs.declared.choices.Passage.{Passage}
use Rattle.fancy_splits.specs.declared.choices.ToldChoice.{ToldChoice}
use Rattle.fancy_prices.specs.declared.price.Price.{Price}
use Rattle.fancy_prices.specs.Prices.{Dies, IsNothing}
use Rattle.fancy_code.specs.Items.{ReadsByte}
use Rattle.fancy_splits.specs.Splits.{IsOwn, IsPassageAt, Leads, LeadsBy, LeadsOut, LeadsPast, LeadsTo, PassesOver, StopsAt, byte_alone, ways_of}
use Rattle.fancy_prices.proofs.DyingWays.{dies_split}
use Rattle.fancy_prices.proofs.PriceForms.{same_price}

module _ (code : List Instruction) (meaning : Meaning) (b : ℕ) where
  abbrev LeadsAs : Price → List ℕ → Onward → ℕ → Type 0
  LeadsAs p ways o q = Leads code meaning b p.marks p.returns ways o q

  -- the same passage, from its parts
  pub leads_as : (p : Passage) (price : Price) (ways : List ℕ) (o : Onward) (q : ℕ) → p.price ≡ price → p.onward ≡ o → ways_of p ≡ ways → LeadsAs price ways o q → LeadsAs p.price (ways_of p) p.onward q
  leads_as p price ways o q prices onward saves leads =
      subst (λ (c : Price). LeadsAs c (ways_of p) p.onward q) (sym prices)
      (subst (λ (ws : List ℕ). LeadsAs price ws p.onward q) (sym saves) (subst (λ (n : Onward). LeadsAs price ways n q) (sym onward) leads))

  -- no choice is passed over, and no item is read
  pub leads_here : (p : Price) (q : ℕ) → IsNothing p → LeadsAs p [] (Goes q) q
  leads_here p q none = same_price (λ (m r : ℕ). Leads code meaning b m r [] (Goes q) q) p 0 0 none.0 none.1 ∣ (zero, (q, (zero, (refl, refl, refl)), refl)) ∣₁

  -- the item is read
  pub leads_read : (p : Price) (q to : ℕ) → IsNothing p → ReadsByte code meaning b q to → LeadsAs p [] (Reads to) q
  leads_read p q to none reads = same_price (λ (m r : ℕ). Leads code meaning b m r [] (Reads to) q) p 0 0 none.0 none.1 ∣ (zero, (q, (zero, (refl, refl, refl)), reads)) ∣₁

  -- all ways die
  pub leads_nowhere : (p : Price) (q : ℕ) → Dies code meaning (byte_alone b) p.marks p.returns q → LeadsAs p [] Ends q
  leads_nowhere p q dies = (refl, dies)

  module _ (at first second : ℕ) (is : instr_at code at ≡ Split first second) where
    -- its second way is saved
    saves : (m r : ℕ) (ways : List ℕ) (to : ℕ) → LeadsTo code meaning b m r ways first to → LeadsTo code meaning b m r (second ∷ ways) at to
    saves m r ways to leads = (zero, 0, 0, at, (refl, refl, refl), first, is, m, r, leads, omega arith, omega arith)

    saves_out : (Last : ℕ → ℕ → Type 0) (groups m r : ℕ) (ways : List ℕ) (to : ℕ) → LeadsOut code meaning b Last groups m r ways first to → LeadsOut code meaning b Last groups m r (second ∷ ways) at to
    saves_out Last zero m r ways to t = (t.0, saves m r ways t.0 t.1, t.2)
    saves_out Last (suc groups) m r ways to t = (t.0, t.1, t.2, saves t.0 t.1 ways t.2 t.3, t.4, t.5, t.6, t.7, t.8, t.9, t.10, t.11, t.12, t.13)

    -- a choice by itself
    pub leads_own : (c : ToldChoice) (p : Passage) → c.first ≡ first → c.second ≡ second → IsOwn c p → LeadsAs p.price (ways_of p) p.onward at
    leads_own c p one other own =
        subst (λ (ws : List ℕ). LeadsAs p.price ws p.onward at) (sym own.1)
        (subst (λ (q : ℕ). LeadsAs p.price (q ∷ []) p.onward at) (sym other)
        (subst (λ (n : Onward). LeadsAs p.price (second ∷ []) n at) (sym own.0)
        (subst (λ (q : ℕ). LeadsAs p.price (second ∷ []) (Goes q) at) (sym one)
        (same_price (λ (m r : ℕ). Leads code meaning b m r (second ∷ []) (Goes first) at) p.price 0 0 own.2 own.3
        ∣ (zero, (first, saves 0 0 [] first (zero, (refl, refl, refl)), refl)) ∣₁))))

    -- its second way is saved, and the first one leads on
    pub leads_by_first : (m r : ℕ) (ways : List ℕ) (o : Onward) → o ≢ Ends → Leads code meaning b m r ways o first → Leads code meaning b m r (second ∷ ways) o at
    leads_by_first m r ways Ends on leads = absurd (on refl)
    leads_by_first m r ways (Goes to) on leads = ∥∥₁_map leads (λ t. (t.0, saves_out (λ from next. from ≡ next) t.0 m r ways to t.1))
    leads_by_first m r ways (Reads to) on leads = ∥∥₁_map leads (λ t. (t.0, saves_out (ReadsByte code meaning b) t.0 m r ways to t.1))

    -- its first way dies, and it is passed over
    module _ (i j : ℕ) (dies : Dies code meaning (byte_alone b) i j first) where
      one_more : (n k l to : ℕ) → PassesOver code meaning b n k l second to → PassesOver code meaning b (suc n) (suc (i + k)) (j + suc l) at to
      one_more n k l to p = (first, second, is, i, j, dies, k, l, p, refl, refl)

      over_one : (ways : List ℕ) (k l to : ℕ) → LeadsTo code meaning b k l ways second to → LeadsTo code meaning b (suc (i + k)) (j + suc l) ways at to
      over_one [] k l to t = (suc t.0, one_more t.0 k l to t.1)
      over_one (way ∷ ways) k l to t =
          (suc t.0, suc (i + t.1), j + suc t.2, t.3, one_more t.0 t.1 t.2 t.3 t.4, t.5, t.6, t.7, t.8, t.9, omega (arith, t.10), omega (arith, t.11))

      over_out : (Last : ℕ → ℕ → Type 0) (groups : ℕ) (ways : List ℕ) (k l to : ℕ) → LeadsOut code meaning b Last groups k l ways second to
          → LeadsOut code meaning b Last groups (suc (i + k)) (j + suc l) ways at to
      over_out Last zero ways k l to t = (t.0, over_one ways k l t.0 t.1, t.2)
      over_out Last (suc groups) ways k l to t =
          (suc (i + t.0), j + suc t.1, t.2, over_one ways t.0 t.1 t.2 t.3, t.4, t.5, t.6, t.7, t.8, t.9, t.10, t.11, omega (arith, t.12), omega (arith, t.13))

      pub leads_over : (k l : ℕ) (ways : List ℕ) (o : Onward) → Leads code meaning b k l ways o second → Leads code meaning b (suc (i + k)) (j + suc l) ways o at
      leads_over k l ways Ends leads = (leads.0, dies_split code meaning (byte_alone b) i j k l at first second is dies leads.1)
      leads_over k l ways (Goes to) leads = ∥∥₁_map leads (λ t. (t.0, over_out (λ from next. from ≡ next) t.0 ways k l to t.1))
      leads_over k l ways (Reads to) leads = ∥∥₁_map leads (λ t. (t.0, over_out (ReadsByte code meaning b) t.0 ways k l to t.1))

  -- an atomic group begins, and stops at once where it is led to
  module _ (at body : ℕ) (is : instr_at code at ≡ Enter body) where
    pub leads_out : (Last : ℕ → ℕ → Type 0) (p q : Price) (dropped : List ℕ) (last to : ℕ) → StopsAt code last to → q.marks ≡ p.marks + length dropped → q.returns ≡ p.returns
        → LeadsPast code meaning b Last p.marks p.returns dropped body last → LeadsPast code meaning b Last q.marks q.returns [] at to
    leads_out Last p q dropped last to stops marks returns leads =
        ∥∥₁_map leads (λ t. (suc t.0, (0, 0, at, (zero, (refl, refl, refl)), body, is, p.marks, p.returns, dropped, last, t.1, stops, omega (arith, marks), omega (arith, returns))))

module _ (code : List Instruction) (meaning : Meaning) (b : ℕ) where
  -- what is noted stays so where the passages do
  pub leads_kept : (old new : List Passage) (q : ℕ) (o : Option ℕ) → ((k : ℕ) (p : Passage) → slice_get old k ≡ Some p → slice_get new k ≡ Some p) → LeadsBy code meaning old q b o → LeadsBy code meaning new q b o
  leads_kept old new q None kept h = tt
  leads_kept old new q (Some k) kept h = (h.0, kept k h.0 h.1, h.2)

  -- the number of a passage
  pub leads_new : {E : Type 0} (first second : ℕ) (passages : List Passage) (p : Passage) (r : Result (Option ℕ) E) → IfOk r (λ o. IfSome o (λ k. slice_get passages k ≡ Some p))
      → ((at : ℕ) → instr_at code at ≡ Split first second → IsPassageAt code meaning b at p)
      → IfOk r (λ o. (at : ℕ) → instr_at code at ≡ Split first second → LeadsBy code meaning passages at b o)
  leads_new first second passages p (Ok None) h leads = λ at is. tt
  leads_new first second passages p (Ok (Some k)) h leads = λ at is. (p, h, leads at is)
  leads_new first second passages p (Err e) h leads = tt
