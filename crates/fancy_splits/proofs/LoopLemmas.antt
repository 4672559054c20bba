-- Loops of one item: where nothing is consumed any more they end, and what follows them may stop at once.
use Rattle.std.proofs.Common.{◌≡◌, ℕ, zero, suc, ◌+◌, ◌<◌, ◌≤◌, ◌==◌, Bool, true, false, inl, inr, List, [], length, Option, Some, None, if◌then◌else◌, nat_le, leb-true, refl, sym, ap, ◌∙◌, subst, arith, slice_get, slice_set, length-append}
use Rattle.std.proofs.lemmas.Bool.{false_from_ne_true}
use Rattle.std.proofs.lemmas.List.{length-drop}
use Rattle.std.proofs.lemmas.Option.{none-some, slice_get_within}
use Rattle.fancy_tree.specs.Sets.{has}
use Rattle.fancy_bytes.specs.Items.{encoding}
use Rattle.fancy_bytes.specs.Sets.{ByteFlags}
use Rattle.fancy_tree.specs.declared.tree.Meaning.{Meaning}
use Rattle.fancy_meaning.specs.Context.{Context, State, moved_to, option_to, past_byte, past_item}
use Rattle.fancy_code.specs.Instructions.{Instruction, Character, Close, Commit, Match, Member, Open, RawByte}
use Rattle.fancy_code.specs.Run.{Note, fetched, Go, act, before, instr_at, onward, run}
use Rattle.fancy_code.proofs.ForetoldLemmas.{item_at}
use Rattle.fancy_prices.specs.Prices.{Costs}
use Rattle.fancy_code.specs.Items.{ReadsEach, reads_to}
use Rattle.fancy_code.proofs.ItemLemmas.{item_of}
use Rattle.fancy_splits.specs.Splits.{DiesPast, IsPast, ReadsEachIn, StopsAt}
use Rattle.fancy_prices.proofs.BeginLemmas.{encoding_some}
use Rattle.fancy_prices.proofs.DyingWays.{read}

-- an item ends past its place, and a byte of it stands there
item_moves : (x : Context) (test : ℕ → Bool) (p q : ℕ) → past_item x test p ≡ Some q → (p < q) × (p < length x.haystack)
item_moves x test p q e =
    let h = item_at x test p q e in
    let some = encoding_some x.meaning h.code in
    let size = ap length h.bytes ∙ length-append (encoding x.meaning h.code) h.rest in
    (omega (arith, h.ends, some), omega (arith, size, some, length-drop p x.haystack))

byte_moves : (x : Context) (byte p q : ℕ) → past_byte x byte p ≡ Some q → (p < q) × (p < length x.haystack)
unfolding past_byte
byte_moves x byte p q e = by (slice_get x.haystack p) refl e where
  passed : (b : ℕ) (t : Bool) → slice_get x.haystack p ≡ Some b → (if t then Some (p + 1) else None) ≡ Some q → (p < q) × (p < length x.haystack)
  passed b true is g = let same : p + 1 ≡ q = cc in (omega (arith, same), slice_get_within x.haystack p b is)
  passed b false is g = absurd (none-some q g)

  by : (o : Option ℕ) → slice_get x.haystack p ≡ o → option_to o None (λ b. if b == byte then Some (p + 1) else None) ≡ Some q → (p < q) × (p < length x.haystack)
  by None is g = absurd (none-some q g)
  by (Some b) is g = passed b (b == byte) is g

-- where nothing is consumed any more no item is read
nothing_read : (x : Context) (limit : ℕ) (go : Go) (next : ℕ) (s : State) (v : List ℕ) (o : Option ℕ) → ((q : ℕ) → o ≡ Some q → (s.place < q) × (s.place < length x.haystack))
    → IsPast x.haystack limit s.place → Costs 0 0 (onward limit go next s v o)
nothing_read x limit go next s v None moves past = (refl, refl)
nothing_read x limit go next s v (Some q) moves past =
    subst (λ (b : Bool). Costs 0 0 (if b then (go next (moved_to s q) v) else (Some []))) (sym (false_from_ne_true (nat_le q limit) (λ e. outside (leb-true q limit e)))) (refl, refl)
  where
    outside : q ≤ limit → ⊥
    outside le =
        let m = moves q refl in
        elim past [
          | inl low ↦ omega (arith, le, low, m.0)
          | inr far ↦ omega (arith, far, m.1)
        ]

module _ (code : List Instruction) (at : ℕ) where
  dies_past_by : (i : Instruction) → instr_at code at ≡ i
      → ((x : Context) (limit n : ℕ) (s : State) (v : List ℕ) → IsPast x.haystack limit s.place → Costs 0 0 (act x limit at i (run x limit code n) (run x (length x.haystack) code n) s v))
      → DiesPast code at
  dies_past_by i is h x limit zero s v past = tt
  dies_past_by i is h x limit (suc n) s v past =
      read 0 0 (act x limit at (instr_at code at) (run x limit code n) (run x (length x.haystack) code n) s v)
      (subst (λ (j : Instruction). Costs 0 0 (act x limit at j (run x limit code n) (run x (length x.haystack) code n) s v)) (sym is) (h x limit n s v past))

  character_ends : (c next : ℕ) → instr_at code at ≡ Character c next → DiesPast code at
  character_ends c next is =
      dies_past_by (Character c next) is
      (λ x limit n s v past. nothing_read x limit (run x limit code n) next s v (past_item x (λ d. d == c) s.place) (item_moves x (λ d. d == c) s.place) past)

  member_ends : (edges : List ℕ) (next : ℕ) → instr_at code at ≡ Member edges next → DiesPast code at
  member_ends edges next is =
      dies_past_by (Member edges next) is
      (λ x limit n s v past. nothing_read x limit (run x limit code n) next s v (past_item x (has edges) s.place) (item_moves x (has edges) s.place) past)

  raw_byte_ends : (byte next : ℕ) → instr_at code at ≡ RawByte byte next → DiesPast code at
  raw_byte_ends byte next is =
      dies_past_by (RawByte byte next) is
      (λ x limit n s v past. nothing_read x limit (run x limit code n) next s v (past_byte x byte s.place) (byte_moves x byte s.place) past)

  pub item_ends : (next : ℕ) → reads_to (instr_at code at) next ≡ true → DiesPast code at
  item_ends next to =
      elim (item_of (instr_at code at) next to) [
        | inl e ↦ character_ends e.0 next e.1
        | inr (inl e) ↦ member_ends e.0 next e.1
        | inr (inr e) ↦ raw_byte_ends e.0 next e.1
      ]

  pub open_ends : (g next : ℕ) → instr_at code at ≡ Open g next → DiesPast code next → DiesPast code at
  open_ends g next is ends = dies_past_by (Open g next) is (λ x limit n s v past. ends x limit n s (slice_set v g s.place) past)

  acts_at : (i : Instruction) → instr_at code at ≡ i → (x : Context) (limit n : ℕ) (s : State) (v : List ℕ)
      → run x limit code (suc n) at s v ≡ before (Note fetched) (act x limit at i (run x limit code n) (run x (length x.haystack) code n) s v)
  acts_at i is x limit n s v = ap (λ (j : Instruction). before (Note fetched) (act x limit at j (run x limit code n) (run x (length x.haystack) code n) s v)) is

  pub stops_commit : (next : ℕ) → instr_at code at ≡ Commit next → StopsAt code at next
  stops_commit next is = acts_at (Commit next) is

  pub stops_match : instr_at code at ≡ Match → StopsAt code at at
  stops_match is = acts_at Match is

-- items that stand in a group
pub each_in_group : (code : List Instruction) (meaning : Meaning) (set : ByteFlags) (g q inner last back : ℕ) → instr_at code q ≡ Open g inner → ReadsEach code meaning set inner last
    → instr_at code last ≡ Close g back → ReadsEachIn code meaning set g q back
each_in_group code meaning set g q inner last back opens reads closes b small in_set x limit n s v meant stands within =
    let starts = slice_set v g s.place in
    acts_at code q (Open g inner) opens x limit (suc (suc n)) s v
    ∙ ap (before (Note fetched)) (reads b small in_set x limit (suc n) s starts meant stands within
    ∙ ap (before (Note fetched)) (acts_at code last (Close g back) closes x limit n (moved_to s (s.place + 1)) starts))
