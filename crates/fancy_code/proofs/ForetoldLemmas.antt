-- What code foretells of the bytes at the first places of what it consumes.
use Rattle.std.proofs.Common.{◌≡◌, ℕ, zero, suc, ◌+◌, ◌-◌, ◌<◌, ◌≤◌, ◌==◌, Bool, true, false, not, ◌&&◌, ◌||◌, List, [], ◌∷◌, ◌++◌, length, drop, take, Option, Some, None, if◌then◌else◌, nat_le, inl, inr, refl, sym, ap, subst, ◌∙◌, ap₂, arith, eqb-true, true≢false, slice_index, slice_get, slice_set, get_or-drop, leb-true, eq-eqb, ne_eqb, replicate}
use Rattle.std.proofs.lemmas.List.{length-replicate, length-take-le, get_or-take, get_or_append_left}
use Rattle.std.proofs.lemmas.Bool.{cases_lt}
use Rattle.std.proofs.lemmas.Bool.Decides.{nat_tests}
use Rattle.std.proofs.lemmas.Option.{slice_get-get_or}
use Rattle.std.proofs.lemmas.Str.{length-encode, len_utf8_bounds}
use Rattle.std.specs.Prelude.{IfSome}
use Rattle.fancy_tree.specs.declared.tree.Meaning.{Meaning}
use Rattle.fancy_tree.specs.declared.tree.Meaning.TheVariants.{Unicode, Bytes, AsciiText}
use Rattle.fancy_tree.specs.declared.tree.Assertion.{Assertion}
use Rattle.fancy_tree.specs.declared.tree.Assertion.TheVariants.{TextStart, LineStart, WordBoundary}
use Rattle.fancy_tree.specs.Sets.{differ, has}
use Rattle.unicode.specs.Perl.{is_word_byte}
use Rattle.fancy_bytes.specs.Items.{encoding, is_item, only}
use Rattle.fancy_bytes.specs.Sets.{ByteFlags, member}
use Rattle.fancy_bytes.specs.Rows.{StandsFrom, set_at, Wider, HasEncoding, HasItems, HasNone}
use Rattle.fancy_prefilter.specs.KeyTables.{NoneMayStand}
use Rattle.fancy_code.specs.Branches.{AreBranches, Chooses, OpensTo, TestsTo}
use Rattle.fancy_prefilter.specs.declared.branches.Branches.{Branches}
use Rattle.fancy_code.specs.declared.code.Code.{Code}
use Rattle.fancy_code.specs.Code.{instrs_of}
use Rattle.fancy_meaning.specs.Context.{Context, State, Unit_at, moved_to, with_capture, unit_in, unit_at, past_item, holds, option_to, is_word, word_before, word_after}
use Rattle.fancy_meaning.specs.Forward.{EachOutcome}
use Rattle.fancy_code.specs.Instructions.{Instruction, Fail, Character, Member, Assert, Split, Open, Close}
use Rattle.fancy_code.specs.Run.{Raw, Note, Stop, Sign, choice_opened, returned, fetched, Go, AllStops, before, join, onward, instr_at, act, run, erase, Foretells}
use Rattle.fancy_code.specs.Compile.{IsCodeOf, depth}
use Rattle.fancy_input.specs.Lines.{is_line_feed}
use Rattle.fancy_prefilter.specs.NextOpening.{FollowsNone, IsInsideWord}
use Rattle.fancy_code.specs.Foretold.{Foretold, ForetoldPast, AreForetold, IsAnchored}
use Rattle.fancy_meaning.specs.Search.{Query, answer_at, context_of, initial}
use Rattle.fancy_meaning.proofs.BeginLemmas.{accepted_holds}
use Rattle.fancy_meaning.proofs.ReadingLemmas.{low_after, low_before}
use Rattle.fancy_meaning.proofs.WordCharacters.{word_byte}
use Rattle.fancy_meaning.proofs.OpenLemmas.{unit_wide}
use Rattle.fancy_code.proofs.RunMore.{past_end}
use Rattle.fancy_meaning.proofs.SearchLemmas.{is-no_answer}
use Rattle.fancy_meaning.proofs.SeenLemmas.{unit_item, only_one, item_of}
use Rattle.fancy_code.proofs.WholeCode.{program_gives}

-- what each stop says

stops_all : (P : Type 0) → P → (w : List Raw) → AllStops (λ q s v. P) w
stops_all P h [] = tt
stops_all P h (Note m ∷ w) = stops_all P h w
stops_all P h (Stop q s v ∷ w) = (h, stops_all P h w)

pub foretells_all : (P : Type 0) → P → (o : Option (List Raw)) → Foretells P o
foretells_all P h None = tt
foretells_all P h (Some w) = stops_all P h w

stops_imply : (P Q : Type 0) → (P → Q) → (w : List Raw) → AllStops (λ q s v. P) w → AllStops (λ q s v. Q) w
stops_imply P Q f [] h = tt
stops_imply P Q f (Note m ∷ w) h = stops_imply P Q f w h
stops_imply P Q f (Stop q s v ∷ w) h = (f h.0, stops_imply P Q f w h.1)

pub foretells_imply : (P Q : Type 0) → (P → Q) → (o : Option (List Raw)) → Foretells P o → Foretells Q o
foretells_imply P Q f None h = tt
foretells_imply P Q f (Some w) h = stops_imply P Q f w h

stops_both : (P : Type 0) (a b : List Raw) → AllStops (λ q s v. P) a → AllStops (λ q s v. P) b → AllStops (λ q s v. P) (a ++ b)
stops_both P [] b f g = g
stops_both P (Note m ∷ a) b f g = stops_both P a b f g
stops_both P (Stop q s v ∷ a) b f g = (f.0, stops_both P a b f.1 g)

pub before_told : (P : Type 0) (m : Sign) (o : Option (List Raw)) → Foretells P o → Foretells P (before (Note m) o)
before_told P m None f = tt
before_told P m (Some w) f = f

join_told : (P : Type 0) (o p : Option (List Raw)) → Foretells P o → Foretells P p → Foretells P (join o p)
join_told P None p f g = tt
join_told P (Some a) None f g = tt
join_told P (Some a) (Some b) f g = stops_both P a (Note returned ∷ b) f g

if_told : (P : Type 0) (c : Bool) (o : Option (List Raw)) → Foretells P o → Foretells P (if c then o else (Some []))
if_told P true o f = f
if_told P false o f = tt

if_within : (P : Type 0) (limit q : ℕ) (c : Bool) (o : Option (List Raw)) → nat_le q limit ≡ c → (q ≤ limit → Foretells P o) → Foretells P (if c then o else (Some []))
if_within P limit q true o e f = f (leb-true q limit e)
if_within P limit q false o e f = tt

pub onward_told : (P : Type 0) (limit : ℕ) (go : Go) (next : ℕ) (s : State) (v : List ℕ) (o : Option ℕ)
    → ((q : ℕ) → o ≡ Some q → q ≤ limit → Foretells P (go next (moved_to s q) v)) → Foretells P (onward limit go next s v o)
onward_told P limit go next s v None f = tt
onward_told P limit go next s v (Some q) f = if_within P limit q (nat_le q limit) (go next (moved_to s q) v) refl (f q refl)

-- the events of the outcomes
outcomes_told : (P : Type 0) (w : List Raw) → AllStops (λ q s v. P) w → EachOutcome (λ t. P) (erase w)
outcomes_told P [] h = tt
outcomes_told P (Note choice_opened ∷ w) h = outcomes_told P w h
outcomes_told P (Note returned ∷ w) h = outcomes_told P w h
outcomes_told P (Note fetched ∷ w) h = outcomes_told P w h
outcomes_told P (Stop q s v ∷ w) h = (h.0, outcomes_told P w h.1)

-- an item, and where it ends

pub record ItemAt (m : Meaning) (haystack : List ℕ) (test : ℕ → Bool) (p q : ℕ) : Type 0 where
  pub code : ℕ
  pub passes : test code ≡ true
  pub item : is_item m code ≡ true
  pub rest : List ℕ
  pub bytes : drop p haystack ≡ encoding m code ++ rest
  pub ends : q ≡ p + length (encoding m code)

item_where : (m : Meaning) (haystack : List ℕ) (test : ℕ → Bool) (p q : ℕ) (u : Unit_at) (b : Bool) → unit_in m haystack p ≡ Some u → test u.code ≡ b
    → (if b then Some (p + u.width) else None) ≡ Some q → ItemAt m haystack test p q
item_where m haystack test p q u true is passes e =
    let h = unit_item haystack p m (only u.code) u is (eq-eqb u.code u.code refl) in
    let same : h.code ≡ u.code = only_one u.code h.code h.passes in
    let end : p + u.width ≡ q = cc in
    record {
      code = u.code;
      passes = passes;
      item = subst (λ (d : ℕ). is_item m d ≡ true) same (item_of m h.code h.scalar);
      rest = h.rest;
      bytes = h.bytes ∙ ap (λ (d : ℕ). encoding m d ++ h.rest) same;
      ends = sym end ∙ ap (λ (n : ℕ). p + n) (unit_wide m haystack p u is);
    }
item_where m haystack test p q u false is passes e = cc

item_if : (x : Context) (test : ℕ → Bool) (p q : ℕ) (o : Option Unit_at) → unit_in x.meaning x.haystack p ≡ o
    → option_to o None (λ u. if test u.code then Some (p + u.width) else None) ≡ Some q → ItemAt x.meaning x.haystack test p q
item_if x test p q None is e = cc
item_if x test p q (Some u) is e = item_where x.meaning x.haystack test p q u (test u.code) is refl e

pub item_at : (x : Context) (test : ℕ → Bool) (p q : ℕ) → past_item x test p ≡ Some q → ItemAt x.meaning x.haystack test p q
unfolding past_item unit_at
item_at x test p q e = item_if x test p q (unit_in x.meaning x.haystack p) refl e

pub encoding_some : (m : Meaning) (c : ℕ) → 0 < length (encoding m c)
encoding_some Unicode c = omega (arith, length-encode c, (len_utf8_bounds c).0)
encoding_some Bytes c = omega arith
encoding_some AsciiText c = omega (arith, length-encode c, (len_utf8_bounds c).0)

pub encoding_short : (m : Meaning) (c : ℕ) → length (encoding m c) ≤ 4
encoding_short Unicode c = omega (arith, length-encode c, (len_utf8_bounds c).1)
encoding_short Bytes c = omega arith
encoding_short AsciiText c = omega (arith, length-encode c, (len_utf8_bounds c).1)

-- a byte of an item
pub item_byte : (haystack bytes rest : List ℕ) (p i : ℕ) → drop p haystack ≡ bytes ++ rest → i < length bytes → slice_index haystack (p + i) ≡ slice_index bytes i
item_byte haystack bytes rest p i e lt = sym (get_or-drop p haystack i 0) ∙ ap (λ (l : List ℕ). slice_index l i) e ∙ get_or_append_left bytes rest 0 i lt

-- rows that have more

pub wider_cut : (old : List ByteFlags) (n : ℕ) → n < length old → Wider old (take n old)
wider_cut old n lt =
    let size : length (take n old) ≡ n = length-take-le n old (omega (arith, lt)) in
    record {
      shorter = omega (arith, size, lt);
      has = λ j b inside small e. ap (λ (s : ByteFlags). member s b) (get_or-take n old j [] (omega (arith, inside, size))) ∙ e;
    }

pub cut_length : (old : List ByteFlags) (n : ℕ) → n < length old → length (take n old) ≤ n
cut_length old n lt = omega (arith, length-take-le n old (omega (arith, lt)))

module _ (m : Meaning) (code : List Instruction) (from at : ℕ) (exact : Bool) (old new : List ByteFlags) (w : Wider old new) where
  pub wider_told : Foretold code m old from exact at → Foretold code m new from exact at
  wider_told f x limit n s v o p meant bytes low same here =
      foretells_imply (StandsFrom old x.haystack limit o p) (StandsFrom new x.haystack limit o p)
      (λ stands j later inside.
      let b = stands j later (omega (arith, inside, w.shorter)) in
      (b.0, w.has j (slice_index x.haystack (p + j)) inside (bytes (p + j)) b.1))
      (run x limit code n at s v) (f x limit n s v o p meant bytes low same here)

module _ (m : Meaning) (code : List Instruction) (from next : ℕ) (exact : Bool) (test : ℕ → Bool) (least bound : ℕ) (old new : List ByteFlags) (w : Wider old new) where
  pub wider_past : ForetoldPast code m old from exact test least bound next → ForetoldPast code m new from exact test least bound next
  wider_past f x limit n s v o p q meant bytes low same here past enough few within =
      foretells_imply (StandsFrom old x.haystack limit o p) (StandsFrom new x.haystack limit o p)
      (λ stands j later inside.
      let b = stands j later (omega (arith, inside, w.shorter)) in
      (b.0, w.has j (slice_index x.haystack (p + j)) inside (bytes (p + j)) b.1))
      (run x limit code n next (moved_to s q) v) (f x limit n s v o p q meant bytes low same here past enough few within)

module _ (m : Meaning) (code : List Instruction) (sets : List ByteFlags) where
  -- past the row nothing is told
  pub told_past : (from at : ℕ) (exact : Bool) → length sets ≤ from → Foretold code m sets from exact at
  told_past from at exact le x limit n s v o p meant bytes low same here =
      foretells_all (StandsFrom sets x.haystack limit o p) (λ j later inside. absurd (omega (arith, le, low, later, inside))) (run x limit code n at s v)

  -- what is told by the instruction
  abbrev Told : ℕ → ℕ → Bool → Instruction → Type 0
  Told from at exact i =
      (x : Context) (limit n : ℕ) (s : State) (v : List ℕ) (o p : ℕ) → x.meaning ≡ m → ((k : ℕ) → slice_index x.haystack k < 256)
      → from ≤ o → (exact ≡ true → o ≡ from) → s.place ≡ p + o
      → Foretells (StandsFrom sets x.haystack limit o p) (act x limit at i (run x limit code n) (run x (length x.haystack) code n) s v)

  told_by : (from at : ℕ) (exact : Bool) (i : Instruction) → instr_at code at ≡ i → Told from at exact i → Foretold code m sets from exact at
  told_by from at exact i is f x limit zero s v o p meant bytes low same here = tt
  told_by from at exact i is f x limit (suc n) s v o p meant bytes low same here =
      before_told (StandsFrom sets x.haystack limit o p) fetched (act x limit at (instr_at code at) (run x limit code n) (run x (length x.haystack) code n) s v)
      (subst (λ (j : Instruction). Foretells (StandsFrom sets x.haystack limit o p) (act x limit at j (run x limit code n) (run x (length x.haystack) code n) s v)) (sym is)
      (f x limit n s v o p meant bytes low same here))

  pub told_fail : (from at : ℕ) (exact : Bool) → instr_at code at ≡ Fail → Foretold code m sets from exact at
  told_fail from at exact is = told_by from at exact Fail is (λ x limit n s v o p meant bytes low same here. tt)

  pub told_nowhere : (from at : ℕ) (exact : Bool) → length code ≤ at → Foretold code m sets from exact at
  told_nowhere from at exact le = told_fail from at exact (past_end code at le)

  pub told_assert : (from at : ℕ) (exact : Bool) (a : Assertion) (next : ℕ) → instr_at code at ≡ Assert a next → Foretold code m sets from exact next → Foretold code m sets from exact at
  told_assert from at exact a next is f =
      told_by from at exact (Assert a next) is
      (λ x limit n s v o p meant bytes low same here.
      if_told (StandsFrom sets x.haystack limit o p) (holds x a s.place) (run x limit code n next s v) (f x limit n s v o p meant bytes low same here))

  pub told_open : (from at : ℕ) (exact : Bool) (group next : ℕ) → instr_at code at ≡ Open group next → Foretold code m sets from exact next → Foretold code m sets from exact at
  told_open from at exact group next is f =
      told_by from at exact (Open group next) is
      (λ x limit n s v o p meant bytes low same here. f x limit n s (slice_set v group s.place) o p meant bytes low same here)

  pub told_close : (from at : ℕ) (exact : Bool) (group next : ℕ) → instr_at code at ≡ Close group next → Foretold code m sets from exact next → Foretold code m sets from exact at
  told_close from at exact group next is f =
      told_by from at exact (Close group next) is
      (λ x limit n s v o p meant bytes low same here. f x limit n (with_capture s group (slice_index v group)) v o p meant bytes low same here)

  pub told_split : (from at : ℕ) (exact : Bool) (a b : ℕ) → instr_at code at ≡ Split a b → Foretold code m sets from exact a → Foretold code m sets from exact b
      → Foretold code m sets from exact at
  told_split from at exact a b is f g =
      told_by from at exact (Split a b) is
      (λ x limit n s v o p meant bytes low same here.
      before_told (StandsFrom sets x.haystack limit o p) choice_opened (join (run x limit code n a s v) (run x limit code n b s v))
      (join_told (StandsFrom sets x.haystack limit o p) (run x limit code n a s v) (run x limit code n b s v)
      (f x limit n s v o p meant bytes low same here) (g x limit n s v o p meant bytes low same here)))

  -- past the row nothing is told
  pub past_row : (from : ℕ) (exact : Bool) (test : ℕ → Bool) (least bound next : ℕ) → length sets ≤ from → ForetoldPast code m sets from exact test least bound next
  past_row from exact test least bound next le x limit n s v o p q meant bytes low same here past enough few within =
      foretells_all (StandsFrom sets x.haystack limit o p) (λ j later inside. absurd (omega (arith, le, low, later, inside))) (run x limit code n next (moved_to s q) v)

  -- no item has so many bytes
  pub past_none : (from : ℕ) (exact : Bool) (test : ℕ → Bool) (least most next : ℕ) → HasNone m test least most → ForetoldPast code m sets from exact test least (most + 1) next
  past_none from exact test least most next none x limit n s v o p q meant bytes low same here past enough few within =
      let h = subst (λ (k : Meaning). ItemAt k x.haystack test s.place q) meant (item_at x test s.place q past) in
      absurd (none h.code h.passes h.item (omega (arith, h.ends, enough)) (omega (arith, h.ends, few)))

  -- an item's bytes stand, and then those of what follows
  pub past_items : (from : ℕ) (exact : Bool) (test : ℕ → Bool) (least most next after : ℕ) (still : Bool) → HasItems sets from exact m test least most
      → after ≡ from + least → (still ≡ true → (exact ≡ true) × (least ≡ most)) → (exact ≡ true → least ≡ most → still ≡ true)
      → Foretold code m sets after still next → ForetoldPast code m sets from exact test least (most + 1) next
  past_items from exact test least most next after still has_them there tells stays f x limit n s v o p q meant small low same here past enough few within =
      let h = subst (λ (k : Meaning). ItemAt k x.haystack test s.place q) meant (item_at x test s.place q past) in
      let size : ℕ = length (encoding m h.code) in
      let more : least ≤ size = omega (arith, h.ends, enough) in
      let less : size ≤ most = omega (arith, h.ends, few) in
      foretells_imply (StandsFrom sets x.haystack limit (o + size) p) (StandsFrom sets x.haystack limit o p)
      (λ stands j later inside.
      elim (cases_lt j (o + size)) [
        | inl lt ↦
            let i : ℕ = j - o in
            let place : s.place + i ≡ p + j = omega (arith, here, later) in
            let byte : slice_index x.haystack (p + j) ≡ slice_index (encoding m h.code) i =
            ap (slice_index x.haystack) (sym place) ∙ item_byte x.haystack (encoding m h.code) h.rest s.place i h.bytes (omega (arith, lt, later)) in (
              omega (arith, here, within, h.ends, lt),
              ap (member (set_at sets j)) byte
                  ∙ has_them h.code h.passes h.item more less i j (omega (arith, lt, later)) (subst (λ (b : ℕ). b < 256) byte (small (p + j))) (omega (arith, low, later))
                  (λ e. omega (arith, same e, later)) inside,
            )
        | inr ge ↦ stands j ge inside
      ])
      (run x limit code n next (moved_to s q) v)
      (f x limit n (moved_to s q) v (o + size) p meant small (omega (arith, there, low, more))
      (λ e. let both = tells e in omega (arith, there, same both.0, both.1, more, less)) (omega (arith, h.ends, here)))

  -- of all items of up to four bytes
  all_past : (from next : ℕ) (exact : Bool) (test : ℕ → Bool) → ForetoldPast code m sets from exact test 1 5 next
      → (x : Context) (limit n : ℕ) (s : State) (v : List ℕ) (o p : ℕ) → x.meaning ≡ m → ((k : ℕ) → slice_index x.haystack k < 256)
      → from ≤ o → (exact ≡ true → o ≡ from) → s.place ≡ p + o
      → Foretells (StandsFrom sets x.haystack limit o p) (onward limit (run x limit code n) next s v (past_item x test s.place))
  all_past from next exact test f x limit n s v o p meant small low same here =
      onward_told (StandsFrom sets x.haystack limit o p) limit (run x limit code n) next s v (past_item x test s.place)
      (λ q past within.
      let h = item_at x test s.place q past in
      f x limit n s v o p q meant small low same here past (omega (arith, h.ends, encoding_some x.meaning h.code)) (omega (arith, h.ends, encoding_short x.meaning h.code)) within)

  pub told_member : (from at next : ℕ) (exact : Bool) (edges : List ℕ) → instr_at code at ≡ Member edges next → ForetoldPast code m sets from exact (has edges) 1 5 next
      → Foretold code m sets from exact at
  told_member from at next exact edges is f = told_by from at exact (Member edges next) is (all_past from next exact (has edges) f)

  pub told_character : (from at next : ℕ) (exact : Bool) (c : ℕ) → instr_at code at ≡ Character c next → ForetoldPast code m sets from exact (λ d. d == c) 1 5 next
      → Foretold code m sets from exact at
  told_character from at next exact c is f = told_by from at exact (Character c next) is (all_past from next exact (λ d. d == c) f)

  -- a character has as many bytes as it has
  pub past_character : (from next after : ℕ) (exact : Bool) (c : ℕ) → HasEncoding sets from exact (encoding m c) → after ≡ from + length (encoding m c)
      → Foretold code m sets after exact next → ForetoldPast code m sets from exact (λ d. d == c) 1 5 next
  past_character from next after exact c has_them there f x limit n s v o p q meant small low same here past enough few within =
      let size : ℕ = length (encoding m c) in
      let h = subst (λ (k : Meaning). ItemAt k x.haystack (λ d. d == c) s.place q) meant (item_at x (λ d. d == c) s.place q past) in
      let is : h.code ≡ c = eqb-true h.code c h.passes in
      let wide : length (encoding m h.code) ≡ size = ap (λ (d : ℕ). length (encoding m d)) is in
      past_items from exact (λ d. d == c) size size next after exact
      (λ d passes item more less. subst (λ (e : ℕ). HasEncoding sets from exact (encoding m e)) (sym (eqb-true d c passes)) has_them)
      there (λ e. (e, refl)) (λ e one. e) f x limit n s v o p q meant small low same here past (omega (arith, h.ends, wide)) (omega (arith, h.ends, wide)) within

  -- two numbers of bytes after one another
  pub past_joined : (from next : ℕ) (exact : Bool) (test : ℕ → Bool) (least bound end : ℕ) → ForetoldPast code m sets from exact test least bound next
      → ForetoldPast code m sets from exact test bound end next → ForetoldPast code m sets from exact test least end next
  past_joined from next exact test least bound end f g x limit n s v o p q meant small low same here past enough few within =
      elim (cases_lt q (s.place + bound)) [
        | inl lt ↦ f x limit n s v o p q meant small low same here past enough lt within
        | inr ge ↦ g x limit n s v o p q meant small low same here past ge few within
      ]

-- from the first instruction on
pub start_told : (code : Code) (sets : List ByteFlags) → Foretold (instrs_of code) code.meaning sets 0 true code.start → AreForetold sets code
start_told code sets f x limit n s v meant bytes = f x limit n s v 0 s.place meant bytes (omega arith) (λ e. refl) (omega arith)

-- nothing is found where a way that stops would say what does not hold
module _ (q : Query) (code : Code) (is : IsCodeOf q.sought.pattern code) (meant : q.sought.meaning ≡ code.meaning) (inside : q.request.range_end ≤ length q.haystack) where
  none_told : (P : Type 0) (p : ℕ) → p ≤ q.request.range_end
      → Foretells P (run (context_of q) q.request.range_end (instrs_of code) (depth (length q.haystack) q.sought.pattern + 1) code.start (initial q p) (replicate code.groups 0))
      → ¬ P → answer_at q p ≡ None
  none_told P p le told never =
      let g = program_gives (context_of q) q.request.range_end q.sought.pattern code is meant inside (initial q p) (replicate code.groups 0) le (length-replicate code.groups 0) in
      is-no_answer q p
      (λ h. never (accepted_holds q p (λ t. P) h (subst (EachOutcome (λ t. P)) g.2 (outcomes_told P g.0 (subst (Foretells P) g.1 told)))))

  -- where a byte of each set does not stand
  pub none_foretold : ((k : ℕ) → slice_index q.haystack k < 256) → (sets : List ByteFlags) → AreForetold sets code
      → (p : ℕ) → p ≤ q.request.range_end → ¬ StandsFrom sets q.haystack q.request.range_end 0 p → answer_at q p ≡ None
  none_foretold bytes sets f p le lacks =
      none_told (StandsFrom sets q.haystack q.request.range_end 0 p) p le
      (f (context_of q) q.request.range_end (depth (length q.haystack) q.sought.pattern + 1) (initial q p) (replicate code.groups 0) meant bytes) lacks

  -- where an assertion does not hold, and each way goes on only where it does
  pub none_anchored : (anchor : Assertion) → IsAnchored (instrs_of code) anchor code.start → (p : ℕ) → p ≤ q.request.range_end → holds (context_of q) anchor p ≡ false → answer_at q p ≡ None
  none_anchored anchor f p le never =
      none_told ⊥ p le (f (context_of q) q.request.range_end (depth (length q.haystack) q.sought.pattern + 1) (initial q p) (replicate code.groups 0) never) (λ h. h)

-- where no alternative may match that the code opens with, no way of it stops

module _ (code : List Instruction) (x : Context) (limit : ℕ) (s : State) (v : List ℕ) where
  none_stops : (q : ℕ) (hs : List ℕ) → Chooses code q hs → ((j n : ℕ) → j < length hs → Foretells ⊥ (run x limit code n (slice_index hs j) s v)) → (n : ℕ) → Foretells ⊥ (run x limit code n q s v)
  none_stops q [] chooses none n = absurd chooses
  none_stops q (h ∷ hs) chooses none zero = tt
  none_stops q (h ∷ hs) chooses none (suc n) =
      elim chooses [
        | inl last ↦ subst (λ (i : ℕ). Foretells ⊥ (run x limit code (suc n) i s v)) (sym last.1) (none 0 (suc n) (omega arith))
        | inr more ↦
            before_told ⊥ fetched (act x limit q (instr_at code q) (run x limit code n) (run x (length x.haystack) code n) s v)
            (subst (λ (i : Instruction). Foretells ⊥ (act x limit q i (run x limit code n) (run x (length x.haystack) code n) s v)) (sym more.1)
            (before_told ⊥ choice_opened (join (run x limit code n h s v) (run x limit code n more.0 s v))
            (join_told ⊥ (run x limit code n h s v) (run x limit code n more.0 s v) (none 0 n (omega arith))
            (none_stops more.0 hs more.2 (λ j m lt. none (suc j) m (omega (arith, lt))) n))))
      ]

-- nor does one of what comes before them

module _ (code : List Instruction) (x : Context) (limit : ℕ) (s : State) where
  none_opened : (o : Option ℕ) (q next : ℕ) → OpensTo code o q next → ((n : ℕ) (v : List ℕ) → Foretells ⊥ (run x limit code n next s v)) → (n : ℕ) (v : List ℕ) → Foretells ⊥ (run x limit code n q s v)
  none_opened None q next same none n v = subst (λ (i : ℕ). Foretells ⊥ (run x limit code n i s v)) (sym same) (none n v)
  none_opened (Some g) q next is none zero v = tt
  none_opened (Some g) q next is none (suc n) v =
      before_told ⊥ fetched (act x limit q (instr_at code q) (run x limit code n) (run x (length x.haystack) code n) s v)
      (subst (λ (i : Instruction). Foretells ⊥ (act x limit q i (run x limit code n) (run x (length x.haystack) code n) s v)) (sym is) (none n (slice_set v g s.place)))

  none_tested : (o : Option Assertion) (q next : ℕ) → TestsTo code o q next → ((n : ℕ) (v : List ℕ) → Foretells ⊥ (run x limit code n next s v)) → (n : ℕ) (v : List ℕ) → Foretells ⊥ (run x limit code n q s v)
  none_tested None q next same none n v = subst (λ (i : ℕ). Foretells ⊥ (run x limit code n i s v)) (sym same) (none n v)
  none_tested (Some a) q next is none zero v = tt
  none_tested (Some a) q next is none (suc n) v =
      before_told ⊥ fetched (act x limit q (instr_at code q) (run x limit code n) (run x (length x.haystack) code n) s v)
      (subst (λ (i : Instruction). Foretells ⊥ (act x limit q i (run x limit code n) (run x (length x.haystack) code n) s v)) (sym is)
      (if_told ⊥ (holds x a s.place) (run x limit code n next s v) (none n v)))

module _ (q : Query) (code : Code) (is : IsCodeOf q.sought.pattern code) (meant : q.sought.meaning ≡ code.meaning) (inside : q.request.range_end ≤ length q.haystack) where
  pub none_branched : ((k : ℕ) → slice_index q.haystack k < 256) → (b : Branches) → AreBranches b (instrs_of code) code.meaning code.start
      → (p : ℕ) → p ≤ q.request.range_end → NoneMayStand b.table q.haystack q.request.range_end p → answer_at q p ≡ None
  none_branched bytes b told p le none =
      none_told q code is meant inside ⊥ p le
      (none_tested (instrs_of code) (context_of q) q.request.range_end (initial q p) b.lead.test code.start told.leads.0 told.leads.1
      (none_opened (instrs_of code) (context_of q) q.request.range_end (initial q p) b.lead.group told.leads.0 b.lead.at told.leads.2
      (λ n v. none_stops (instrs_of code) (context_of q) q.request.range_end (initial q p) v b.lead.at b.heads.items told.chooses
      (λ j m lt. told.told j lt (context_of q) q.request.range_end m (initial q p) v meant bytes (none j)) n))
      (depth (length q.haystack) q.sought.pattern + 1) (replicate code.groups 0))
      (λ h. h)

-- the text's start is not past it
pub start_fails : (x : Context) (p : ℕ) → 0 < p → holds x TextStart p ≡ false
unfolding holds
start_fails x p never = ap (λ (b : Bool). b && not x.start_text_off) (ne_eqb p 0 (λ e. omega (arith, e, never)))

-- no line starts where no line feed stands before

no_feed : (l : List ℕ) (q : ℕ) → (slice_index l q ≡ 10 → ⊥) → is_line_feed (slice_get l q) ≡ false
no_feed [] q other = refl
no_feed (b ∷ l) zero other = ne_eqb b 10 other
no_feed (b ∷ l) (suc q) other = no_feed l q other

line_fails : (x : Context) (q : ℕ) → (slice_index x.haystack q ≡ 10 → ⊥) → holds x LineStart (suc q) ≡ false
unfolding holds
line_fails x q other = ap (λ (b : Bool). b || is_line_feed (slice_get x.haystack q)) (ne_eqb (suc q) 0 (λ e. omega (arith, e))) ∙ no_feed x.haystack q other

pub within_line : (x : Context) (set : ByteFlags) → member set 10 ≡ true → (p : ℕ) → FollowsNone set x.haystack p → holds x LineStart p ≡ false
within_line x set feed zero within = absurd within
within_line x set feed (suc q) within = line_fails x q (λ e. true≢false (sym feed ∙ sym (ap (member set) e) ∙ within))

-- inside a word there is no boundary
word_is_low : (b : ℕ) → is_word_byte b ≡ true → b < 128
word_is_low b e = grind (arith, nat_tests, e)

pub inside_word : (x : Context) (set : ByteFlags) → ((k : ℕ) → slice_index x.haystack k < 256) → ((b : ℕ) → b < 256 → member set b ≡ false → is_word_byte b ≡ true) → (p : ℕ)
    → IsInsideWord set x.haystack p → holds x WordBoundary p ≡ false
unfolding holds word_before word_after
inside_word x set bytes words zero inside = absurd inside.0
inside_word x set bytes words (suc q) inside =
    let first = slice_index x.haystack q in
    let second = slice_index x.haystack (suc q) in
    let one : is_word_byte first ≡ true = words first (bytes q) inside.0 in
    let two : is_word_byte second ≡ true = words second (bytes (suc q)) inside.1.1 in
    let before = low_before x.meaning x.haystack (suc q) first (word_is_low first one) (slice_get-get_or x.haystack q 0 (omega (arith, inside.1.0))) in
    let after = low_after x.meaning x.haystack (suc q) second (word_is_low second two) (slice_get-get_or x.haystack (suc q) 0 inside.1.0) in
    ap₂ differ
    (ap (is_word x.meaning) before ∙ word_byte x.meaning first (word_is_low first one) ∙ one)
    (ap (is_word x.meaning) after ∙ word_byte x.meaning second (word_is_low second two) ∙ two)

-- code that goes on only where an assertion holds

module _ (code : List Instruction) (anchor : Assertion) where
  abbrev AnchoredBy : ℕ → Instruction → Type 0
  AnchoredBy at i =
      (x : Context) (limit n : ℕ) (s : State) (v : List ℕ) → holds x anchor s.place ≡ false → Foretells ⊥ (act x limit at i (run x limit code n) (run x (length x.haystack) code n) s v)

  anchored_by : (at : ℕ) (i : Instruction) → instr_at code at ≡ i → AnchoredBy at i → IsAnchored code anchor at
  anchored_by at i is f x limit zero s v never = tt
  anchored_by at i is f x limit (suc n) s v never =
      before_told ⊥ fetched (act x limit at (instr_at code at) (run x limit code n) (run x (length x.haystack) code n) s v)
      (subst (λ (j : Instruction). Foretells ⊥ (act x limit at j (run x limit code n) (run x (length x.haystack) code n) s v)) (sym is) (f x limit n s v never))

  pub anchored_fail : (at : ℕ) → instr_at code at ≡ Fail → IsAnchored code anchor at
  anchored_fail at is = anchored_by at Fail is (λ x limit n s v never. tt)

  pub anchored_nowhere : (at : ℕ) → length code ≤ at → IsAnchored code anchor at
  anchored_nowhere at le = anchored_fail at (past_end code at le)

  pub anchored_start : (at next : ℕ) → instr_at code at ≡ Assert anchor next → IsAnchored code anchor at
  anchored_start at next is =
      anchored_by at (Assert anchor next) is
      (λ x limit n s v never. subst (λ (b : Bool). Foretells ⊥ (if b then (run x limit code n next s v) else (Some []))) (sym never) tt)

  pub anchored_assert : (at : ℕ) (a : Assertion) (next : ℕ) → instr_at code at ≡ Assert a next → IsAnchored code anchor next → IsAnchored code anchor at
  anchored_assert at a next is f =
      anchored_by at (Assert a next) is (λ x limit n s v never. if_told ⊥ (holds x a s.place) (run x limit code n next s v) (f x limit n s v never))

  pub anchored_open : (at group next : ℕ) → instr_at code at ≡ Open group next → IsAnchored code anchor next → IsAnchored code anchor at
  anchored_open at group next is f = anchored_by at (Open group next) is (λ x limit n s v never. f x limit n s (slice_set v group s.place) never)

  pub anchored_close : (at group next : ℕ) → instr_at code at ≡ Close group next → IsAnchored code anchor next → IsAnchored code anchor at
  anchored_close at group next is f =
      anchored_by at (Close group next) is (λ x limit n s v never. f x limit n (with_capture s group (slice_index v group)) v never)

  pub anchored_split : (at a b : ℕ) → instr_at code at ≡ Split a b → IsAnchored code anchor a → IsAnchored code anchor b → IsAnchored code anchor at
  anchored_split at a b is f g =
      anchored_by at (Split a b) is
      (λ x limit n s v never.
      before_told ⊥ choice_opened (join (run x limit code n a s v) (run x limit code n b s v))
      (join_told ⊥ (run x limit code n a s v) (run x limit code n b s v) (f x limit n s v never) (g x limit n s v never)))

pub some_foretold : (code : Code) (o : Option (List ByteFlags)) (row : List ByteFlags) → IfSome o (λ r. r ≡ row) → AreForetold row code → IfSome o (λ sets. AreForetold sets code)
some_foretold code None row same told = tt
some_foretold code (Some r) row same told = subst (λ (sets : List ByteFlags). AreForetold sets code) (sym same) told
