-- How code comes to a loop where an item of it stands.
use Rattle.std.proofs.Common.{◌≡◌, ℕ, zero, suc, ◌+◌, ◌<◌, true, List, length, Some, sym, ap, ◌∙◌, subst, arith, slice_get, slice_set}
use Rattle.std.proofs.lemmas.Option.{same_Some}
use Rattle.fancy_tree.specs.declared.tree.Meaning.{Meaning}
use Rattle.fancy_bytes.specs.Sets.{ByteFlags, member}
use Rattle.fancy_meaning.specs.Context.{Context, State, moved_to}
use Rattle.fancy_meaning.specs.Events.{any}
use Rattle.fancy_code.specs.Instructions.{Instruction, Open, Split}
use Rattle.fancy_code.specs.Run.{Note, choice_opened, fetched, before, join, act, instr_at, run}
use Rattle.fancy_splits.specs.declared.splits.ToldSplit.{ToldSplit}
use Rattle.fancy_splits.specs.declared.splits.Splits.{Splits}
use Rattle.fancy_splits.specs.declared.splits.ToldPart.TheVariants.{Loop}
use Rattle.fancy_prices.specs.Prices.{Costs, Dies}
use Rattle.fancy_code.specs.Items.{ReadsByte, ReadsEach}
use Rattle.fancy_splits.specs.Splits.{IsNoted, byte_alone}
use Rattle.fancy_splits.specs.Front.{DiesAtEach, Leads, LeadsBy}
use Rattle.fancy_prices.proofs.DyingWays.{costs_same, joined, opened, read}

module _ (code : List Instruction) (meaning : Meaning) (b : ℕ) where
  -- what an instruction does from the state s on
  abbrev ActsBy : ℕ → ℕ → ℕ → ℕ → Instruction → Type 0
  ActsBy m r q to i =
      (x : Context) (limit n : ℕ) (s : State) (v : List ℕ) → x.meaning ≡ meaning → slice_get x.haystack s.place ≡ Some b → s.place < limit
      → (k l : ℕ) → ((d : ℕ) (w : List ℕ) → Costs k l (run x limit code d to (moved_to s (s.place + 1)) w))
      → Costs (m + k) (r + l) (act x limit q i (run x limit code n) (run x (length x.haystack) code n) s v)

  leads_by : (m r q to : ℕ) (i : Instruction) → instr_at code q ≡ i → ActsBy m r q to i → LeadsBy code meaning b m r q to
  leads_by m r q to i is acts x limit zero s v meant stands within k l costs = tt
  leads_by m r q to i is acts x limit (suc n) s v meant stands within k l costs =
      read (m + k) (r + l) (act x limit q (instr_at code q) (run x limit code n) (run x (length x.haystack) code n) s v)
      (subst (λ (j : Instruction). Costs (m + k) (r + l) (act x limit q j (run x limit code n) (run x (length x.haystack) code n) s v)) (sym is)
      (acts x limit n s v meant stands within k l costs))

  leads_open : (m r q to group next : ℕ) → instr_at code q ≡ Open group next → LeadsBy code meaning b m r next to → LeadsBy code meaning b m r q to
  leads_open m r q to group next is h =
      leads_by m r q to (Open group next) is (λ x limit n s v meant stands within k l costs. h x limit n s (slice_set v group s.place) meant stands within k l costs)

  -- a choice whose first way dies
  leads_split : (m r q to first second : ℕ) → instr_at code q ≡ Split first second → Dies code meaning (byte_alone b) 0 0 first → LeadsBy code meaning b m r second to
      → LeadsBy code meaning b (suc m) (suc r) q to
  leads_split m r q to first second is dies h =
      leads_by (suc m) (suc r) q to (Split first second) is
      (λ x limit n s v meant stands within k l costs.
      let o = run x limit code n first s v in
      let p = run x limit code n second s v in
      costs_same any (suc (0 + (m + k))) (0 + suc (r + l)) (suc m + k) (suc r + l) (before (Note choice_opened) (join o p)) (omega arith) (omega arith)
      (opened any (0 + (m + k)) (0 + suc (r + l)) (join o p)
      (joined any 0 0 (m + k) (r + l) o p (dies x limit n s v meant (record { here = stands; before = tt })) (h x limit n s v meant stands within k l costs))))

  -- the item is read
  leads_read : (q to : ℕ) → ReadsByte code meaning b q to → LeadsBy code meaning b 0 0 q to
  leads_read q to reads x limit zero s v meant stands within k l costs = tt
  leads_read q to reads x limit (suc n) s v meant stands within k l costs =
      let after = run x limit code n to (moved_to s (s.place + 1)) v in
      subst (Costs (0 + k) (0 + l)) (sym (reads x limit n s v meant stands within))
      (costs_same any k l (0 + k) (0 + l) (before (Note fetched) after) (omega arith) (omega arith) (read k l after (costs n v)))

-- so it is of each byte of a set
module _ (code : List Instruction) (meaning : Meaning) (set : ByteFlags) (q to : ℕ) where
  pub each_open : (m r group next : ℕ) → instr_at code q ≡ Open group next → Leads code meaning set m r next to → Leads code meaning set m r q to
  each_open m r group next is h b lt among = leads_open code meaning b m r q to group next is (h b lt among)

  pub each_split : (m r first second : ℕ) → instr_at code q ≡ Split first second → DiesAtEach code meaning set first → Leads code meaning set m r second to
      → Leads code meaning set (suc m) (suc r) q to
  each_split m r first second is dies h b lt among = leads_split code meaning b m r q to first second is (dies b lt among) (h b lt among)

  pub each_read : (items : ByteFlags) → ((b : ℕ) → b < 256 → member set b ≡ true → member items b ≡ true) → ReadsEach code meaning items q to → Leads code meaning set 0 0 q to
  each_read items among reads b lt is = leads_read code meaning b q to (reads b lt (among b lt is))

same_choice : (l m : ToldSplit) → Loop l ≡ Loop m → l ≡ m
same_choice l m e = cc

-- one loop at most is noted for an instruction
pub one_split : (splits : Splits) (at : ℕ) (l m : ToldSplit) → IsNoted splits at l → IsNoted splits at m → l ≡ m
one_split splits at l m a b =
    let n : a.0 ≡ b.0 = same_Some _ _ (sym a.1 ∙ b.1) in
    same_choice l m (same_Some _ _ (sym a.2 ∙ ap (slice_get splits.parts.items) n ∙ b.2))
