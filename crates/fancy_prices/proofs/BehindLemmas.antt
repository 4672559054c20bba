-- Look-behinds whose items cannot stand where they must.
use Rattle.std.proofs.Common.{◌≡◌, ℕ, zero, suc, ◌+◌, ◌-◌, ◌<◌, ◌≤◌, ◌==◌, Bool, true, false, inl, inr, List, [], ◌∷◌, ◌++◌, length, drop, Option, Some, None, if◌then◌else◌, nat_le, refl, sym, ap, ◌∙◌, subst, arith, slice_index, ne_eqb, eqb-true, get_or-drop}
use Rattle.std.specs.Char.{encode_utf8}
use Rattle.std.proofs.lemmas.Bool.Decides.{nat_tests}
use Rattle.std.proofs.lemmas.List.{get_or_append_left, length-drop, length-append}
use Rattle.std.proofs.lemmas.Option.{same_Some, slice_get-get_or}
use Rattle.std.proofs.lemmas.Bool.{cases_lt}
use Rattle.fancy_tree.specs.declared.tree.Meaning.{Meaning}
use Rattle.fancy_tree.specs.declared.tree.Meaning.TheVariants.{Unicode, Bytes, AsciiText}
use Rattle.fancy_input.specs.Lines.{byte_before}
use Rattle.fancy_bytes.specs.Items.{encoding}
use Rattle.fancy_meaning.specs.Context.{Context, State, moved_to, option_to, past_item, units_back}
use Rattle.fancy_meaning.specs.Events.{ends_look}
use Rattle.fancy_tree.specs.Sets.{has}
use Rattle.fancy_code.specs.Instructions.{Instruction, Match, Back, Character, Look, Member, Split}
use Rattle.fancy_code.specs.Run.{Raw, Go, join, onward, resume, instr_at, act, run}
use Rattle.fancy_bytes.proofs.ItemBytesLemmas.{low_text}
use Rattle.fancy_code.proofs.ForetoldLemmas.{ItemAt, item_at}
use Rattle.fancy_prices.specs.declared.facts.Before.{Before}
use Rattle.fancy_prices.specs.declared.facts.Ending.{Ending}
use Rattle.fancy_prices.specs.declared.facts.Ending.TheVariants.{Last, Second}
use Rattle.fancy_prices.specs.declared.facts.Facts.{Facts}
use Rattle.fancy_prices.specs.Facts.{IsEnding, IsOfKind}
use Rattle.fancy_prices.specs.Prices.{Costs, DiesBehind, EndsNotWith, EndsOtherwise, FindsNone, Misses, ReadsLow, StopsNeverBehind, last_byte}
use Rattle.fancy_prices.proofs.BeginLemmas.{encoding_some}
use Rattle.fancy_prices.proofs.DyingWays.{fenced_none, joined, opened, read, read_on}
use Rattle.fancy_prices.proofs.FactLemmas.{kind_before}

-- the last byte of a character: itself, if it is ASCII, else one past ASCII
pub low_last : (m : Meaning) (c : ℕ) → c < 128 → last_byte m c ≡ c
low_last Unicode c low = ap (λ (l : List ℕ). slice_index l (length l - 1)) (low_text c low)
low_last Bytes c low = refl
low_last AsciiText c low = ap (λ (l : List ℕ). slice_index l (length l - 1)) (low_text c low)

high_text : (c : ℕ) → 128 ≤ c → 128 ≤ slice_index (encode_utf8 c) (length (encode_utf8 c) - 1)
unfolding encode_utf8
high_text c high = grind (arith, nat_tests)

pub high_last : (m : Meaning) (c : ℕ) → 128 ≤ c → 128 ≤ last_byte m c
high_last Unicode c high = high_text c high
high_last Bytes c high = high
high_last AsciiText c high = high_text c high

-- it stands right before the item's end
stands_last : (h bytes rest : List ℕ) (p n : ℕ) → drop p h ≡ bytes ++ rest → length bytes ≡ suc n → byte_before h (p + length bytes) ≡ Some (slice_index bytes n)
stands_last h bytes rest p n e size =
    let there : p + length bytes ≡ suc (p + n) = omega (arith, size) in
    let count : length h - p ≡ suc n + length rest = sym (length-drop p h) ∙ ap length e ∙ length-append bytes rest ∙ ap (λ (k : ℕ). k + length rest) size in
    ap (byte_before h) there ∙ slice_get-get_or h (p + n) 0 (omega (arith, count))
    ∙ ap (λ (b : ℕ). Some b) (sym (get_or-drop p h n 0) ∙ ap (λ (l : List ℕ). slice_index l n) e ∙ get_or_append_left bytes rest 0 n (omega (arith, size)))

ends_with : (x : Context) (test : ℕ → Bool) (p q : ℕ) (h : ItemAt x.meaning x.haystack test p q) → byte_before x.haystack q ≡ Some (last_byte x.meaning h.code)
ends_with x test p q h = by (length (encoding x.meaning h.code)) refl where
  by : (n : ℕ) → length (encoding x.meaning h.code) ≡ n → byte_before x.haystack q ≡ Some (last_byte x.meaning h.code)
  by zero e = absurd (omega (arith, e, encoding_some x.meaning h.code))
  by (suc n) e =
      ap (byte_before x.haystack) h.ends ∙ stands_last x.haystack (encoding x.meaning h.code) h.rest p n h.bytes e
      ∙ ap (λ (k : ℕ). Some (slice_index (encoding x.meaning h.code) k)) (omega (arith, e))

-- no mark, no return, and no stop that is wanted
module _ (wanted : State → Bool) where
  if_missed : (b : Bool) (o : Option (List Raw)) → Misses wanted 0 0 o → Misses wanted 0 0 (if b then o else (Some []))
  if_missed true o h = h
  if_missed false o h = (refl, refl)

  onward_missed : (limit : ℕ) (go : Go) (next : ℕ) (s : State) (v : List ℕ) (o : Option ℕ) → ((p : ℕ) → o ≡ Some p → Misses wanted 0 0 (go next (moved_to s p) v))
      → Misses wanted 0 0 (onward limit go next s v o)
  onward_missed limit go next s v None h = (refl, refl)
  onward_missed limit go next s v (Some p) h = if_missed (nat_le p limit) (go next (moved_to s p) v) (h p refl)

  back_missed : (go : Go) (next : ℕ) (s : State) (v : List ℕ) → ((t : State) → Misses wanted 0 0 (go next t v)) → (o : Option ℕ)
      → Misses wanted 0 0 (option_to o (Some []) (λ p. go next (moved_to s p) v))
  back_missed go next s v h None = (refl, refl)
  back_missed go next s v h (Some p) = h (moved_to s p)

module _ (code : List Instruction) (ending : Ending) where
  abbrev NeverBy : ℕ → ℕ → ℕ → Instruction → Type 0
  NeverBy m r at i =
      (x : Context) (limit n : ℕ) (s : State) (v : List ℕ) (p : ℕ) → IsEnding ending x.haystack p
      → Misses (λ t. t.place == p) m r (act x limit at i (run x limit code n) (run x (length x.haystack) code n) s v)

  never_by : (m r at : ℕ) (i : Instruction) → instr_at code at ≡ i → NeverBy m r at i → StopsNeverBehind code ending m r at
  never_by m r at i is h x limit zero s v p of = tt
  never_by m r at i is h x limit (suc n) s v p of =
      read_on (λ t. t.place == p) m r (act x limit at (instr_at code at) (run x limit code n) (run x (length x.haystack) code n) s v)
      (subst (λ (j : Instruction). Misses (λ t. t.place == p) m r (act x limit at j (run x limit code n) (run x (length x.haystack) code n) s v)) (sym is) (h x limit n s v p of))

  pub never_back : (at units next : ℕ) → instr_at code at ≡ Back units next → StopsNeverBehind code ending 0 0 next → StopsNeverBehind code ending 0 0 at
  never_back at units next is h =
      never_by 0 0 at (Back units next) is (λ x limit n s v p of. back_missed (λ t. t.place == p) (run x limit code n) next s v (λ t. h x limit n t v p of) (units_back x units s.place))

  pub never_character : (at c next : ℕ) → instr_at code at ≡ Character c next → StopsNeverBehind code ending 0 0 next → StopsNeverBehind code ending 0 0 at
  never_character at c next is h =
      never_by 0 0 at (Character c next) is
      (λ x limit n s v p of. onward_missed (λ t. t.place == p) limit (run x limit code n) next s v (past_item x (λ d. d == c) s.place) (λ q e. h x limit n (moved_to s q) v p of))

  pub never_member : (at : ℕ) (edges : List ℕ) (next : ℕ) → instr_at code at ≡ Member edges next → StopsNeverBehind code ending 0 0 next → StopsNeverBehind code ending 0 0 at
  never_member at edges next is h =
      never_by 0 0 at (Member edges next) is
      (λ x limit n s v p of. onward_missed (λ t. t.place == p) limit (run x limit code n) next s v (past_item x (has edges) s.place) (λ q e. h x limit n (moved_to s q) v p of))

  -- two ways
  pub never_split : (m r k l at a b : ℕ) → instr_at code at ≡ Split a b → StopsNeverBehind code ending m r a → StopsNeverBehind code ending k l b
      → StopsNeverBehind code ending (suc (m + k)) (r + suc l) at
  never_split m r k l at a b is g h =
      never_by (suc (m + k)) (r + suc l) at (Split a b) is
      (λ x limit n s v p of.
      opened (λ t. t.place == p) (m + k) (r + suc l) (join (run x limit code n a s v) (run x limit code n b s v))
      (joined (λ t. t.place == p) m r k l (run x limit code n a s v) (run x limit code n b s v) (g x limit n s v p of) (h x limit n s v p of)))

-- behind what is read last
module _ (code : List Instruction) (next : ℕ) (ends : instr_at code next ≡ Match) where
  stops : (x : Context) (limit n : ℕ) (t : State) (v : List ℕ) (p : ℕ) → (t.place == p) ≡ false → Misses (λ t. t.place == p) 0 0 (run x limit code n next t v)
  stops x limit zero t v p e = tt
  stops x limit (suc n) t v p e =
      read_on (λ t. t.place == p) 0 0 (act x limit next (instr_at code next) (run x limit code n) (run x (length x.haystack) code n) t v)
      (subst (λ (j : Instruction). Misses (λ t. t.place == p) 0 0 (act x limit next j (run x limit code n) (run x (length x.haystack) code n) t v)) (sym ends) (e, (refl, refl)))

  -- an item is read that ends elsewhere
  read_last : (x : Context) (limit n : ℕ) (s : State) (v : List ℕ) (p : ℕ) (test : ℕ → Bool) → ((q : ℕ) → past_item x test s.place ≡ Some q → (q == p) ≡ false)
      → Misses (λ t. t.place == p) 0 0 (onward limit (run x limit code n) next s v (past_item x test s.place))
  read_last x limit n s v p test other =
      onward_missed (λ t. t.place == p) limit (run x limit code n) next s v (past_item x test s.place) (λ q e. stops x limit n (moved_to s q) v p (other q e))

-- the last item ends with no byte of the kind
module _ (code : List Instruction) (kind : Before) (next : ℕ) (ends : instr_at code next ≡ Match) where
  other : (test : ℕ → Bool) → ((c : ℕ) → test c ≡ true → EndsOtherwise kind c) → (x : Context) (o q p : ℕ) → IsOfKind kind (byte_before x.haystack p) → past_item x test o ≡ Some q → (q == p) ≡ false
  other test otherwise x o q p of e =
      let h = item_at x test o q e in
      ne_eqb q p (λ same. otherwise h.code h.passes x.meaning (subst (IsOfKind kind) (ap (byte_before x.haystack) (sym same) ∙ ends_with x test o q h) of))

  pub last_character : (at c : ℕ) → instr_at code at ≡ Character c next → EndsOtherwise kind c → StopsNeverBehind code (Last kind) 0 0 at
  last_character at c is otherwise =
      never_by code (Last kind) 0 0 at (Character c next) is
      (λ x limit n s v p of.
      read_last code next ends x limit n s v p (λ d. d == c) (λ q e. other (λ d. d == c) (λ d passes. subst (EndsOtherwise kind) (sym (eqb-true d c passes)) otherwise) x s.place q p of e))

  pub last_member : (at : ℕ) (edges : List ℕ) → instr_at code at ≡ Member edges next → ((c : ℕ) → has edges c ≡ true → EndsOtherwise kind c) → StopsNeverBehind code (Last kind) 0 0 at
  last_member at edges is otherwise =
      never_by code (Last kind) 0 0 at (Member edges next) is (λ x limit n s v p of. read_last code next ends x limit n s v p (has edges) (λ q e. other (has edges) otherwise x s.place q p of e))

low_encoding : (m : Meaning) (c : ℕ) → c < 128 → encoding m c ≡ c ∷ []
low_encoding Unicode c low = low_text c low
low_encoding Bytes c low = refl
low_encoding AsciiText c low = low_text c low

-- the last item is an ASCII character, and the one before it does not end with the byte
module _ (code : List Instruction) (b c next : ℕ) (low : ReadsLow code next) (without : EndsNotWith c b) where
  abbrev last : ℕ → Bool
  last d = d == low.0

  elsewhere : (x : Context) (o q r p : ℕ) → byte_before x.haystack (p - 1) ≡ Some b → past_item x (λ d. d == c) o ≡ Some q → past_item x last q ≡ Some r → (r == p) ≡ false
  elsewhere x o q r p of e f =
      let h = item_at x (λ d. d == c) o q e in
      let k = item_at x last q r f in
      let one : length (encoding x.meaning k.code) ≡ 1 = ap (λ (d : ℕ). length (encoding x.meaning d)) (eqb-true k.code low.0 k.passes) ∙ ap length (low_encoding x.meaning low.0 low.4) in
      let stands : byte_before x.haystack q ≡ Some (last_byte x.meaning c) = ends_with x (λ d. d == c) o q h ∙ ap (λ (d : ℕ). Some (last_byte x.meaning d)) (eqb-true h.code c h.passes) in
      ne_eqb r p (λ same.
      let there : q ≡ p - 1 = omega (arith, k.ends, one, same) in
      without x.meaning (same_Some _ _ (sym stands ∙ ap (byte_before x.haystack) there ∙ of)))

  second_read : (x : Context) (limit n : ℕ) (t : State) (v : List ℕ) (p : ℕ) → ((r : ℕ) → past_item x last t.place ≡ Some r → (r == p) ≡ false) → Misses (λ u. u.place == p) 0 0 (run x limit code n next t v)
  second_read x limit zero t v p other = tt
  second_read x limit (suc n) t v p other =
      read_on (λ u. u.place == p) 0 0 (act x limit next (instr_at code next) (run x limit code n) (run x (length x.haystack) code n) t v)
      (subst (λ (j : Instruction). Misses (λ u. u.place == p) 0 0 (act x limit next j (run x limit code n) (run x (length x.haystack) code n) t v)) (sym low.2)
      (read_last code low.1 low.3 x limit n t v p last other))

  pub second_character : (at : ℕ) → instr_at code at ≡ Character c next → StopsNeverBehind code (Second b) 0 0 at
  second_character at is =
      never_by code (Second b) 0 0 at (Character c next) is
      (λ x limit n s v p of.
      onward_missed (λ t. t.place == p) limit (run x limit code n) next s v (past_item x (λ d. d == c) s.place)
      (λ q e. second_read x limit n (moved_to s q) v p (λ r f. elsewhere x s.place q r p of e f)))

-- what stands before cannot be what the look-behind ends with
pub none_behind : (code : List Instruction) (meaning : Meaning) (behind : Bool) (f : Facts) (kind : Before) (m r body : ℕ) → behind ≡ true → f.before ≡ Some kind
    → StopsNeverBehind code (Last kind) m r body → FindsNone code meaning behind f m r body
none_behind code meaning behind f kind m r body is told never x limit n s v meant stands =
    subst (λ (b : Bool). Misses (ends_look b s.place) m r (run x limit code n body s v)) (sym is)
    (never x limit n s v s.place (kind_before f kind told x.haystack s.place stands))

-- so the look-behind dies
pub dies_behind : (code : List Instruction) (ending : Ending) (behind : Bool) (m r at body next : ℕ) → behind ≡ true → instr_at code at ≡ Look behind body next → StopsNeverBehind code ending m r body
    → DiesBehind code ending m r at
dies_behind code ending behind m r at body next looks is never x limit zero s v of = tt
dies_behind code ending behind m r at body next looks is never x limit (suc n) s v of =
    read m r (act x limit at (instr_at code at) (run x limit code n) (run x (length x.haystack) code n) s v)
    (subst (λ (j : Instruction). Costs m r (act x limit at j (run x limit code n) (run x (length x.haystack) code n) s v)) (sym is)
    (fenced_none (resume (run x limit code n) next s.place) (ends_look behind s.place) m r (run x (length x.haystack) code n body s v)
    (subst (λ (b : Bool). Misses (ends_look b s.place) m r (run x (length x.haystack) code n body s v)) (sym looks) (never x (length x.haystack) n s v s.place of))))

-- a character that does not end with a byte
pub low_ends : (b c : ℕ) → b < 128 → (c ≡ b → ⊥) → EndsNotWith c b
low_ends b c low other m e =
    elim (cases_lt c 128) [
      | inl ascii ↦ other (sym (low_last m c ascii) ∙ e)
      | inr past ↦ absurd (omega (arith, low, e, high_last m c past))
    ]

pub high_ends : (b c : ℕ) → 128 ≤ b → c < 128 → EndsNotWith c b
high_ends b c high low m e = absurd (omega (arith, high, low, e, low_last m c low))
