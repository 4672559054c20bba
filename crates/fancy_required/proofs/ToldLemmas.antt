-- What is told of patterns, part by part.
use Rattle.std.proofs.Common.{◌≡◌, ℕ, ◌+◌, ◌<◌, ◌≤◌, Bool, true, false, List, [], ◌∷◌, ◌++◌, length, map, take, drop, get_or, refl, sym, ap, subst, ◌∙◌, arith, append_assoc, slice_index}
use Rattle.std.proofs.lemmas.List.{append-nil, length-map, drop_all, drop_more, take-append-drop, map-append}
use Rattle.fancy_tree.specs.declared.tree.Tree.{Tree}
use Rattle.std.proofs.Common.{inl, inr, true≢false}
use Rattle.std.proofs.lemmas.Bool.{cases_lt}
use Rattle.std.specs.Prelude.{encode_utf8}
use Rattle.std.proofs.lemmas.Str.{length-encode, len_utf8_ascii}
use Rattle.std.specs.Prelude.{Option}
use Rattle.fancy_tree.specs.declared.tree.Assertion.{Assertion}
use Rattle.fancy_tree.specs.declared.tree.RepeatKind.{RepeatKind}
use Rattle.fancy_tree.specs.declared.tree.Meaning.{Meaning}
use Rattle.fancy_tree.specs.declared.tree.Meaning.TheVariants.{Unicode, Bytes, AsciiText}
use Rattle.fancy_bytes.specs.Items.{encoding}
use Rattle.fancy_bytes.specs.Firsts.{first_bytes}
use Rattle.fancy_tree.specs.Pattern.{Pattern, empty, character, raw_byte, assertion, group, repeat, in_sequence, in_choice, pattern_of}
use Rattle.fancy_bytes.specs.Sets.{AddsBytes, ByteFlags, member}
use Rattle.fancy_bytes.proofs.BoolLemmas.{second_holds}
use Rattle.fancy_bytes.proofs.ListLemmas.{next_part}
use Rattle.fancy_required.specs.Told.{gap, Tells, TellsText, TellsLess, AreGaps, TellsBoth, TellsRow, TellsEach, AddsSome, HasRow, HasFirst, AreBytes, ReadsItem, any_bytes, of_character, of_assertion, of_byte, of_group, of_turns, of_item, of_byte_item, reads_character, reads_member, reads_any_case, no_gap, one_gap, no_byte, one_byte, IsLess, IsSetOf, HasText, nothing_told, no_more_told, same_gap, less_of_byte, of_nothing, of_parts, of_either, of_last, of_less, no_part, one_part, no_branch, one_branch}
use Rattle.fancy_required.specs.declared.told.Told.{Told}
use Rattle.fancy_required.specs.declared.told.Told.TheVariants.{Gap, One, Among}

-- what is told so far of something, of which the rest is told by `Rest`: with that it is told whole
pub record SoFar (Rest Whole : List Told → Type 0) (old new : List Told) : Type 0 where
  pub told : List Told
  pub is : new ≡ old ++ told
  pub whole : (more : List Told) → Rest more → Whole (told ++ more)

pub on : (Rest Next Whole : List Told → Type 0) (old now new add : List Told) → ((more : List Told) → Next more → Rest (add ++ more)) → new ≡ now ++ add
    → SoFar Rest Whole old now → SoFar Next Whole old new
on Rest Next Whole old now new add leads is s = record {
  told = s.told ++ add;
  is = is ∙ ap (λ (l : List Told). l ++ add) s.is ∙ append_assoc old s.told add;
  whole = λ more h. subst Whole (sym (append_assoc s.told add more)) (s.whole (add ++ more) (leads more h));
}

pub all_told : (Rest Kind : List Told → Type 0) (old new : List Told) → Rest [] → SoFar Rest Kind old new → AddsSome Kind old new
all_told Rest Kind old new none s = record { told = s.told; is = s.is; kind = subst Kind (append-nil s.told) (s.whole [] none) }

pub ends_told : (Rest Kind : List Told → Type 0) (old now new : List Told) → Rest gap → new ≡ now ++ gap → SoFar Rest Kind old now → AddsSome Kind old new
ends_told Rest Kind old now new last is s = record {
  told = s.told ++ gap;
  is = is ∙ ap (λ (l : List Told). l ++ gap) s.is ∙ append_assoc old s.told gap;
  kind = s.whole gap last;
}

-- bytes
pub byte_on : (bytes : List ℕ) (i : ℕ) (more : List Told) → i < length bytes → TellsText (drop (i + 1) bytes) more → TellsText (drop i bytes) (One (slice_index bytes i) ∷ more)
byte_on bytes i more lt rest = subst (λ (l : List ℕ). TellsText l (One (slice_index bytes i) ∷ more)) (sym (drop_more bytes i 0 lt)) (one_byte rest)

pub text_end : (bytes : List ℕ) (i : ℕ) → length bytes ≤ i → TellsText (drop i bytes) []
text_end bytes i le = subst (λ (l : List ℕ). TellsText l []) (sym (drop_all i bytes le)) no_byte

-- what is told at a place, and after it
next_told : (told : List Told) (i : ℕ) (s : Told) → i < length told → s ≡ get_or told i s → s ∷ drop (i + 1) told ≡ drop i told
next_told told i s lt is = ap (λ (u : Told). u ∷ drop (i + 1) told) is ∙ sym (drop_more told i s lt)

-- what tells less
pub less_same : (told : List Told) → TellsLess told told
less_same [] = no_more_told
less_same (Gap ∷ told) = same_gap (less_same told)
less_same (One byte ∷ told) = less_of_byte refl (less_same told)
less_same (Among set ∷ told) = less_of_byte (λ b lt h. h) (less_same told)

is_gap : Told → Bool
is_gap Gap = true
is_gap (One byte) = false
is_gap (Among set) = false

gap_is_no_byte : (byte : ℕ) → Gap ≡ One byte → ⊥
unfolding is_gap
gap_is_no_byte byte e = true≢false (ap is_gap e)

less_than_gaps : {a b : List Told} → TellsLess a b → AreGaps b → AreGaps a
less_than_gaps (nothing_told g) h = one_gap g
less_than_gaps no_more_told h = no_gap
less_than_gaps (same_gap g) (one_gap h) = one_gap (less_than_gaps g h)
less_than_gaps (less_of_byte {one = Gap} f g) h = absurd f
less_than_gaps (less_of_byte {one = One byte} f g) (one_gap h) = absurd (gap_is_no_byte byte f)
less_than_gaps (less_of_byte {one = Among set} f g) (one_gap h) = absurd f

less_byte : (a b c : Told) → IsLess a b → IsLess b c → IsLess a c
less_byte Gap b c f g = absurd f
less_byte (One byte) b c f g = subst (λ (t : Told). IsLess t c) f g
less_byte (Among set) Gap c f g = absurd f
less_byte (Among set) (One byte) c f g = subst (IsSetOf set) (sym g) f
less_byte (Among set) (Among told) Gap f g = absurd g
less_byte (Among set) (Among told) (One byte) f g = λ lt. f byte lt (g lt)
less_byte (Among set) (Among told) (Among wide) f g = λ b lt has. f b lt (g b lt has)

pub less_than_less : {a b c : List Told} → TellsLess a b → TellsLess b c → TellsLess a c
less_than_less (nothing_told g) h = nothing_told g
less_than_less no_more_told no_more_told = no_more_told
less_than_less (same_gap g) (nothing_told h) = nothing_told (less_than_gaps g h)
less_than_less (same_gap g) (same_gap h) = same_gap (less_than_less g h)
less_than_less (same_gap g) (less_of_byte f h) = absurd f
less_than_less (less_of_byte {one = Gap} f g) h = absurd f
less_than_less (less_of_byte {one = One byte} f g) (nothing_told h) = absurd (gap_is_no_byte byte f)
less_than_less (less_of_byte {one = Among set} f g) (nothing_told h) = absurd f
less_than_less (less_of_byte {one = One byte} f g) (same_gap h) = absurd (gap_is_no_byte byte f)
less_than_less (less_of_byte {one = Among set} f g) (same_gap h) = absurd f
less_than_less (less_of_byte {one = a} {another = b} f g) (less_of_byte {another = c} e h) = less_of_byte (less_byte a b c f e) (less_than_less g h)

pub less_after : (before : List Told) {a b : List Told} → TellsLess a b → TellsLess (before ++ a) (before ++ b)
less_after [] h = h
less_after (Gap ∷ before) h = same_gap (less_after before h)
less_after (One byte ∷ before) h = less_of_byte refl (less_after before h)
less_after (Among set ∷ before) h = less_of_byte (λ b lt has. has) (less_after before h)

-- patterns one after another, and alternatives
pub tells_sequence : (m : Meaning) (ps : List Pattern) {told : List Told} → TellsRow m ps told → Tells m (in_sequence ps) told
tells_sequence m [] no_part = of_nothing
tells_sequence m (p ∷ []) (one_part {told = t} h no_part) = subst (Tells m p) (sym (append-nil t)) h
tells_sequence m (p ∷ q ∷ ps) (one_part h rest) = of_parts h (tells_sequence m (q ∷ ps) rest)

pub tells_choice : (m : Meaning) (ps : List Pattern) {told : List Told} → 0 < length ps → TellsEach m ps told → Tells m (in_choice ps) told
tells_choice m [] some h = absurd (omega (arith, some))
tells_choice m (p ∷ []) some (one_branch h rest) = of_last h
tells_choice m (p ∷ q ∷ ps) some (one_branch h rest) = of_either h (tells_choice m (q ∷ ps) (omega arith) rest)

pub part_on : (m : Meaning) (ts : List Tree) (i : ℕ) (t : Tree) {told more : List Told} → i < length ts → t ≡ get_or ts i t → Tells m (pattern_of t) told
    → TellsRow m (drop (i + 1) (map pattern_of ts)) more → TellsRow m (drop i (map pattern_of ts)) (told ++ more)
part_on m ts i t {told} {more} lt is h rest = subst (λ (ps : List Pattern). TellsRow m ps (told ++ more)) (sym (next_part ts i t lt is)) (one_part h rest)

-- each of these patterns tells it, if those from the i-th on do
abbrev pub EachFrom : Meaning → List Pattern → ℕ → List Told → Type 0
EachFrom m ps i common = (less : List Told) → TellsLess less common → TellsEach m (drop i ps) less → TellsEach m ps less

pub branch_on : (m : Meaning) (ts : List Tree) (i : ℕ) (t : Tree) (common other both : List Told) → i < length ts → t ≡ get_or ts i t → Tells m (pattern_of t) other
    → TellsLess both common → TellsLess both other → EachFrom m (map pattern_of ts) i common → EachFrom m (map pattern_of ts) (i + 1) both
branch_on m ts i t common other both lt is h first second before less low rest =
    before less (less_than_less low first)
    (subst (λ (ps : List Pattern). TellsEach m ps less) (sym (next_part ts i t lt is)) (one_branch (of_less (less_than_less low second) h) rest))

pub first_branch : (m : Meaning) (ts : List Tree) (t : Tree) (told : List Told) → 0 < length ts → t ≡ get_or ts 0 t → Tells m (pattern_of t) told → EachFrom m (map pattern_of ts) 1 told
first_branch m ts t told some is h less low rest =
    subst (λ (ps : List Pattern). TellsEach m ps less) (sym (next_part ts 0 t some is)) (one_branch (of_less low h) rest)

-- the two that are told at a place, and those after it
pub both_on : (first second : List Told) (i : ℕ) (s t both : Told) (more : List Told) → i < length first → i < length second → s ≡ get_or first i s → t ≡ get_or second i t → IsLess both s → IsLess both t
    → TellsBoth (drop (i + 1) first) (drop (i + 1) second) more → TellsBoth (drop i first) (drop i second) (both ∷ more)
both_on first second i s t both more lt below is same f g h = record {
  one = subst (TellsLess (both ∷ more)) (next_told first i s lt is) (less_of_byte f h.one);
  other = subst (TellsLess (both ∷ more)) (next_told second i t below same) (less_of_byte g h.other);
}

-- neither goes on
pub both_end : (first second : List Told) (i : ℕ) → length first ≤ i → length second ≤ i → TellsBoth (drop i first) (drop i second) []
both_end first second i le less = record {
  one = subst (TellsLess []) (sym (drop_all i first le)) no_more_told;
  other = subst (TellsLess []) (sym (drop_all i second less)) no_more_told;
}

pub set_on : (told : List Told) (from i : ℕ) (s : Told) (set : ByteFlags) (row new : List ByteFlags) → i < length told → s ≡ get_or told i s → IsSetOf set s → new ≡ row ++ (set ∷ [])
    → TellsLess (map Among row ++ drop i told) (drop from told) → TellsLess (map Among new ++ drop (i + 1) told) (drop from told)
set_on told from i s set row new lt is f more h =
    subst (λ (l : List Told). TellsLess l (drop from told))
    (sym (ap (λ (l : List ByteFlags). map Among l ++ drop (i + 1) told) more ∙ ap (λ (l : List Told). l ++ drop (i + 1) told) (map-append Among row (set ∷ [])) ∙ append_assoc (map Among row) (Among set ∷ []) (drop (i + 1) told)))
    (less_than_less (less_after (map Among row) (less_of_byte {one = Among set} {another = s} f (less_same (drop (i + 1) told))))
    (subst (λ (l : List Told). TellsLess (map Among row ++ l) (drop from told)) (sym (next_told told i s lt is)) h))

pub row_told : (m : Meaning) (p : Pattern) (told : List Told) (from i : ℕ) (row : List ByteFlags) → TellsLess (map Among row ++ drop i told) (drop from told) → Tells m p told → HasRow m p row
row_told m p told from i row less h = record {
  before = take from told;
  after = drop i told;
  tells = of_less (subst (TellsLess (take from told ++ (map Among row ++ drop i told))) (take-append-drop from told) (less_after (take from told) less)) h;
}

-- a text, and what is told after it
pub text_told : (m : Meaning) (p : Pattern) (told : List Told) (from i : ℕ) (text : List ℕ) → map One text ++ drop i told ≡ drop from told → Tells m p told → HasText m p text
text_told m p told from i text is h = record {
  before = take from told;
  after = drop i told;
  tells = subst (Tells m p) (sym (ap (λ (l : List Told). take from told ++ l) is ∙ take-append-drop from told)) h;
}

-- all that was added to nothing
pub kind_of_new : (Kind : List Told → Type 0) (old new : List Told) → old ≡ [] → AddsSome Kind old new → Kind new
kind_of_new Kind old new none h = subst Kind (sym (h.is ∙ ap (λ (l : List Told). l ++ h.told) none)) h.kind

-- What was added is of one kind where it is of another.
pub kind_from : (Kind Other : List Told → Type 0) (old new : List Told) → ((told : List Told) → Kind told → Other told) → AddsSome Kind old new → AddsSome Other old new
kind_from Kind Other old new to h = record { told = h.told; is = h.is; kind = to h.told h.kind }

pub told_any : (m : Meaning) (p : Pattern) (old new : List Told) → new ≡ old ++ gap → AddsSome (Tells m p) old new
told_any m p old new is = record { told = gap; is = is; kind = any_bytes p }

-- a character in byte meaning
pub character_in_bytes : (m : Meaning) (c : ℕ) (old new : List Told) → m ≡ Bytes → AddsSome (TellsText (c ∷ [])) old new → AddsSome (Tells m (character c)) old new
character_in_bytes m c old new is h =
    kind_from (TellsText (c ∷ [])) (Tells m (character c)) old new (λ told t. of_character c (subst (λ (k : Meaning). TellsText (encoding k c) told) (sym is) t)) h

-- and in the others
pub in_utf8 : (m : Meaning) (c : ℕ) → ¬ (m ≡ Bytes) → encoding m c ≡ encode_utf8 c
in_utf8 Unicode c other = refl
in_utf8 Bytes c other = absurd (other refl)
in_utf8 AsciiText c other = refl

pub character_in_utf8 : (m : Meaning) (c : ℕ) (old new : List Told) → ¬ (m ≡ Bytes) → AddsSome (TellsText (encode_utf8 c)) old new → AddsSome (Tells m (character c)) old new
character_in_utf8 m c old new other h =
    kind_from (TellsText (encode_utf8 c)) (Tells m (character c)) old new (λ told t. of_character c (subst (λ (bytes : List ℕ). TellsText bytes told) (sym (in_utf8 m c other)) t)) h

-- the items that pass the test are bytes: in byte meaning, or where all are ASCII
pub bytes_in_bytes : (m : Meaning) (test : ℕ → Bool) → m ≡ Bytes → AreBytes m test
bytes_in_bytes m test is c passes item = ap (λ (k : Meaning). length (encoding k c)) is

ascii_length : (m : Meaning) (c : ℕ) → c < 128 → length (encoding m c) ≡ 1
ascii_length Unicode c lt = length-encode c ∙ len_utf8_ascii c lt
ascii_length Bytes c lt = refl
ascii_length AsciiText c lt = length-encode c ∙ len_utf8_ascii c lt

pub bytes_of_ascii : (m : Meaning) (test : ℕ → Bool) → ((c : ℕ) → 128 ≤ c → test c ≡ false) → AreBytes m test
bytes_of_ascii m test none c passes item =
    elim (cases_lt c 128) [
      | inl lt ↦ ascii_length m c lt
      | inr past ↦ absurd (true≢false (sym passes ∙ none c past))
    ]

-- the first byte of an item
pub reads_first : (m : Meaning) (p : Pattern) (test : ℕ → Bool) (old now : ByteFlags) → ReadsItem p test → ((b : ℕ) → b < 256 → member old b ≡ false) → AddsBytes (first_bytes m p) old now → HasFirst m test now
reads_first m p test old now (reads_character c) none adds b lt first = adds b lt ∙ second_holds (member old b) (first_bytes m p b) first
reads_first m p test old now (reads_member edges) none adds b lt first = adds b lt ∙ second_holds (member old b) (first_bytes m p b) first
reads_first m p test old now (reads_any_case edges) none adds b lt first = adds b lt ∙ second_holds (member old b) (first_bytes m p b) first

-- what was added of a pattern
pub tells_nothing : (m : Meaning) (old : List Told) → AddsSome (Tells m empty) old old
tells_nothing m old = record { told = []; is = sym (append-nil old); kind = of_nothing }

pub tells_place : (m : Meaning) (a : Assertion) (old : List Told) → AddsSome (Tells m (assertion a)) old old
tells_place m a old = record { told = []; is = sym (append-nil old); kind = of_assertion a }

pub tells_byte : (m : Meaning) (byte : ℕ) (old new : List Told) → AddsSome (TellsText (byte ∷ [])) old new → AddsSome (Tells m (raw_byte byte)) old new
tells_byte m byte old new = kind_from (TellsText (byte ∷ [])) (Tells m (raw_byte byte)) old new (λ told t. of_byte byte t)

pub tells_group : (m : Meaning) (index : ℕ) (body : Pattern) (old new : List Told) → AddsSome (Tells m body) old new → AddsSome (Tells m (group index body)) old new
tells_group m index body old new = kind_from (Tells m body) (Tells m (group index body)) old new (λ told t. of_group index t)

pub tells_turns : (m : Meaning) (low : ℕ) (high : Option ℕ) (kind : RepeatKind) (body : Pattern) (old now new : List Told) → 1 ≤ low → AddsSome (Tells m body) old now → new ≡ now ++ gap
    → AddsSome (Tells m (repeat low high kind body)) old new
tells_turns m low high kind body old now new some h is = record {
  told = h.told ++ gap;
  is = is ∙ ap (λ (l : List Told). l ++ gap) h.is ∙ append_assoc old h.told gap;
  kind = of_turns high kind some h.kind;
}

-- an item of a byte, and one of which the first byte is told
pub tells_item : (m : Meaning) (p : Pattern) (test : ℕ → Bool) (none set : ByteFlags) (old now new : List Told) → ReadsItem p test → ((b : ℕ) → b < 256 → member none b ≡ false) → AddsBytes (first_bytes m p) none set
    → now ≡ old ++ (Among set ∷ []) → new ≡ now ++ gap → AddsSome (Tells m p) old new
tells_item m p test none set old now new reads blank adds first last = record {
  told = Among set ∷ gap;
  is = last ∙ ap (λ (l : List Told). l ++ gap) first ∙ append_assoc old (Among set ∷ []) gap;
  kind = of_item reads (reads_first m p test none set reads blank adds);
}

pub tells_byte_item : (m : Meaning) (p : Pattern) (test : ℕ → Bool) (none set : ByteFlags) (old new : List Told) → ReadsItem p test → AreBytes m test → ((b : ℕ) → b < 256 → member none b ≡ false)
    → AddsBytes (first_bytes m p) none set → new ≡ old ++ (Among set ∷ []) → AddsSome (Tells m p) old new
tells_byte_item m p test none set old new reads bytes blank adds is = record { told = Among set ∷ []; is = is; kind = of_byte_item reads (reads_first m p test none set reads blank adds) bytes }

pub row_end : (m : Meaning) (ts : List Tree) (i : ℕ) → length ts ≤ i → TellsRow m (drop i (map pattern_of ts)) []
row_end m ts i le = subst (λ (ps : List Pattern). TellsRow m ps []) (sym (drop_all i (map pattern_of ts) (omega (arith, le, length-map ts pattern_of)))) no_part

-- what all alternatives tell was added
pub tells_all : (m : Meaning) (ts : List Tree) (i : ℕ) (common old new : List Told) → 0 < length ts → length ts ≤ i → new ≡ old ++ common → EachFrom m (map pattern_of ts) i common
    → AddsSome (Tells m (in_choice (map pattern_of ts))) old new
tells_all m ts i common old new some le is each = record {
  told = common;
  is = is;
  kind =
      tells_choice m (map pattern_of ts) (omega (arith, some, length-map ts pattern_of))
      (each common (less_same common) (subst (λ (ps : List Pattern). TellsEach m ps common) (sym (drop_all i (map pattern_of ts) (omega (arith, le, length-map ts pattern_of)))) no_branch));
}
