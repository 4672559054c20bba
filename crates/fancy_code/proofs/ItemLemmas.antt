-- What an instruction reads that reads an item.
use Rattle.std.proofs.Common.{◌≡◌, ℕ, ◌+◌, ◌<◌, ◌≤◌, ◌==◌, Bool, true, List, [], length, Option, Some, None, if◌then◌else◌, refl, sym, ap, ◌∙◌, arith, slice_get, eq-eqb, eqb-true, ◌⊎◌, inl, inr, true≢false}
use Rattle.std.proofs.lemmas.Bool.{le-leb}
use Rattle.fancy_tree.specs.declared.tree.Meaning.{Meaning}
use Rattle.fancy_tree.specs.Sets.{has}
use Rattle.fancy_bytes.specs.Sets.{ByteFlags, member}
use Rattle.fancy_meaning.specs.Context.{Context, State, Unit_at, moved_to, option_to, past_byte, past_item, unit_at, unit_in}
use Rattle.fancy_code.specs.Instructions.{Instruction, Match, Fail, Character, Member, RawByte, Assert, Split, Open, Close, Enter, Commit, Look, Deny, Test, Back, Recall, Keep, Continue, Taken}
use Rattle.fancy_code.specs.Items.{AreItems, IsAlone, ReadsByte, ReadsEach, single, reads_to}
use Rattle.fancy_code.specs.Run.{Note, fetched, Go, before, onward, act, instr_at, run}

-- the place after an item of one byte
past_alone : (x : Context) (test : ℕ → Bool) (p b : ℕ) → unit_in x.meaning x.haystack p ≡ Some (single b) → test b ≡ true → past_item x test p ≡ Some (p + 1)
unfolding past_item unit_at
past_alone x test p b is passes =
    ap (λ (o : Option Unit_at). option_to o None (λ u. if test u.code then Some (p + u.width) else None)) is
    ∙ ap (λ (t : Bool). if t then Some (p + 1) else None) passes

past_raw : (x : Context) (p b : ℕ) → slice_get x.haystack p ≡ Some b → past_byte x b p ≡ Some (p + 1)
unfolding past_byte
past_raw x p b stands =
    ap (λ (o : Option ℕ). option_to o None (λ c. if c == b then Some (p + 1) else None)) stands
    ∙ ap (λ (t : Bool). if t then Some (p + 1) else None) (eq-eqb b b refl)

-- what follows an item that ends by the limit
onward_on : (limit : ℕ) (go : Go) (next : ℕ) (s : State) (v : List ℕ) (o : Option ℕ) (p : ℕ) → o ≡ Some p → p ≤ limit → onward limit go next s v o ≡ go next (moved_to s p) v
onward_on limit go next s v o p e le =
    ap (onward limit go next s v) e ∙ ap (λ (t : Bool). if t then (go next (moved_to s p) v) else (Some [])) (le-leb p limit le)

module _ (code : List Instruction) (meaning : Meaning) (q next b : ℕ) where
  reads_by : (i : Instruction) → instr_at code q ≡ i
      → ((x : Context) (limit n : ℕ) (s : State) (v : List ℕ) → x.meaning ≡ meaning → slice_get x.haystack s.place ≡ Some b → s.place < limit
      → act x limit q i (run x limit code n) (run x (length x.haystack) code n) s v ≡ run x limit code n next (moved_to s (s.place + 1)) v)
      → ReadsByte code meaning b q next
  reads_by i is acts x limit n s v meant stands within =
      ap (λ (j : Instruction). before (Note fetched) (act x limit q j (run x limit code n) (run x (length x.haystack) code n) s v)) is
      ∙ ap (before (Note fetched)) (acts x limit n s v meant stands within)

  module _ (test : ℕ → Bool) (alone : IsAlone meaning b) (passes : test b ≡ true) where
    reads_item : (x : Context) (limit n : ℕ) (s : State) (v : List ℕ) → x.meaning ≡ meaning → slice_get x.haystack s.place ≡ Some b → s.place < limit
        → onward limit (run x limit code n) next s v (past_item x test s.place) ≡ run x limit code n next (moved_to s (s.place + 1)) v
    reads_item x limit n s v meant stands within =
        onward_on limit (run x limit code n) next s v (past_item x test s.place) (s.place + 1)
        (past_alone x test s.place b (ap (λ (m : Meaning). unit_in m x.haystack s.place) meant ∙ alone x.haystack s.place stands) passes) (omega (arith, within))

  pub reads_character : (c : ℕ) → instr_at code q ≡ Character c next → IsAlone meaning b → (b == c) ≡ true → ReadsByte code meaning b q next
  reads_character c is alone passes = reads_by (Character c next) is (reads_item (λ d. d == c) alone passes)

  pub reads_member : (edges : List ℕ) → instr_at code q ≡ Member edges next → IsAlone meaning b → has edges b ≡ true → ReadsByte code meaning b q next
  reads_member edges is alone passes = reads_by (Member edges next) is (reads_item (has edges) alone passes)

  pub reads_raw_byte : instr_at code q ≡ RawByte b next → ReadsByte code meaning b q next
  reads_raw_byte is =
      reads_by (RawByte b next) is
      (λ x limit n s v meant stands within.
      onward_on limit (run x limit code n) next s v (past_byte x b s.place) (s.place + 1) (past_raw x s.place b stands) (omega (arith, within)))

-- the bytes of a set that are items of an instruction
module _ (code : List Instruction) (meaning : Meaning) (set : ByteFlags) (q next : ℕ) where
  pub each_character : (c : ℕ) → instr_at code q ≡ Character c next → AreItems meaning (λ d. d == c) set → ReadsEach code meaning set q next
  each_character c is items b small in_set = let i = items b small in_set in reads_character code meaning q next b c is i.0 i.1

  pub each_member : (edges : List ℕ) → instr_at code q ≡ Member edges next → AreItems meaning (has edges) set → ReadsEach code meaning set q next
  each_member edges is items b small in_set = let i = items b small in_set in reads_member code meaning q next b edges is i.0 i.1

  pub each_raw_byte : (byte : ℕ) → instr_at code q ≡ RawByte byte next → ((b : ℕ) → b < 256 → member set b ≡ (b == byte)) → ReadsEach code meaning set q next
  each_raw_byte byte is only b small in_set =
      let same : b ≡ byte = eqb-true b byte (sym (only b small) ∙ in_set) in
      reads_raw_byte code meaning q next b (is ∙ ap (λ (c : ℕ). RawByte c next) (sym same))

-- what reads an item and goes on there
pub item_of : (i : Instruction) (next : ℕ) → reads_to i next ≡ true
    → ((c : ℕ) × (i ≡ Character c next)) ⊎ ((edges : List ℕ) × (i ≡ Member edges next)) ⊎ ((byte : ℕ) × (i ≡ RawByte byte next))
item_of (Character c n) next to = inl (c, ap (Character c) (eqb-true n next to))
item_of (Member e n) next to = inr (inl (e, ap (Member e) (eqb-true n next to)))
item_of (RawByte b n) next to = inr (inr (b, ap (RawByte b) (eqb-true n next to)))
item_of Match next to = absurd (true≢false (sym to))
item_of Fail next to = absurd (true≢false (sym to))
item_of (Assert a n) next to = absurd (true≢false (sym to))
item_of (Split a b) next to = absurd (true≢false (sym to))
item_of (Open g n) next to = absurd (true≢false (sym to))
item_of (Close g n) next to = absurd (true≢false (sym to))
item_of (Enter b) next to = absurd (true≢false (sym to))
item_of (Commit n) next to = absurd (true≢false (sym to))
item_of (Look l b n) next to = absurd (true≢false (sym to))
item_of (Deny l b n) next to = absurd (true≢false (sym to))
item_of (Test b o) next to = absurd (true≢false (sym to))
item_of (Back k n) next to = absurd (true≢false (sym to))
item_of (Recall f g m s) next to = absurd (true≢false (sym to))
item_of (Keep n) next to = absurd (true≢false (sym to))
item_of (Continue n) next to = absurd (true≢false (sym to))
item_of (Taken g n) next to = absurd (true≢false (sym to))
