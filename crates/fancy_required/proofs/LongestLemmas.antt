-- The longest text that is told.
use Rattle.std.proofs.Common.{◌≡◌, ℕ, ◌+◌, ◌-◌, ◌<◌, ◌≤◌, List, ◌++◌, length, map, get_or, refl, sym, ap, subst, ◌∙◌, arith, inl, inr}
use Rattle.std.proofs.lemmas.Bool.{cases_lt}
use Rattle.std.proofs.lemmas.List.{get_or_past, get_or_default, get_or-append-add, get_or_append_left, get_or-map, length-map}
use Rattle.fancy_required.specs.Told.{IsByte, AreBytesTold, IsLongest, IsLongestFrom}
use Rattle.fancy_required.specs.declared.told.Told.{Told}
use Rattle.fancy_required.specs.declared.told.Told.TheVariants.{Gap, One, Among}

-- of the first i of what is told: so many bytes are the last of them, and no more; so many bytes are told from the longest's number on, and nowhere more
pub record SeenTo (told : List Told) (i longest most len : ℕ) : Type 0 where
  pub within : len ≤ i
  pub last : AreBytesTold told (i - len) i
  pub no_more : (from : ℕ) → AreBytesTold told from i → i ≤ from + len
  pub best : AreBytesTold told longest (longest + most)
  pub none_longer : (from to : ℕ) → to ≤ i → AreBytesTold told from to → to ≤ from + most

pub none_seen : (told : List Told) → SeenTo told 0 0 0 0
none_seen told = record {
  within = omega arith;
  last = λ j le lt. absurd (omega (arith, lt));
  no_more = λ from h. omega arith;
  best = λ j le lt. absurd (omega (arith, lt));
  none_longer = λ from to le h. omega (arith, le);
}

-- what stands at a number of a byte, and of none
pub byte_here : (told : List Told) (i byte : ℕ) (s : Told) → i < length told → get_or told i s ≡ One byte → IsByte (get_or told i Gap)
byte_here told i byte s lt one = subst IsByte (sym (get_or_default told i Gap s lt ∙ one)) tt

is_none : (s : Told) → ((byte : ℕ) → s ≡ One byte → ⊥) → IsByte s → ⊥
is_none Gap not h = h
is_none (One byte) not h = not byte refl
is_none (Among set) not h = h

pub none_here : (told : List Told) (i : ℕ) (s : Told) → i < length told → ((byte : ℕ) → get_or told i s ≡ One byte → ⊥) → IsByte (get_or told i Gap) → ⊥
none_here told i s lt not h = is_none (get_or told i s) not (subst IsByte (get_or_default told i Gap s lt) h)

pub none_past : (told : List Told) (i : ℕ) → length told ≤ i → IsByte (get_or told i Gap) → ⊥
none_past told i le h = subst IsByte (get_or_past told i Gap le) h

-- one more is looked at
pub past_other : (told : List Told) (i longest most len : ℕ) → (IsByte (get_or told i Gap) → ⊥) → SeenTo told i longest most len → SeenTo told (i + 1) longest most 0
past_other told i longest most len none seen =
    let starts_later : (from : ℕ) → AreBytesTold told from (i + 1) → i < from = λ from h. elim (cases_lt i from) [ inl later ↦ later | inr le ↦ absurd (none (h i le (omega arith))) ] in
    record {
      within = omega arith;
      last = λ j le lt. absurd (omega (arith, le, lt));
      no_more = λ from h. omega (arith, starts_later from h);
      best = seen.best;
      none_longer =
          λ from to le h.
          elim (cases_lt i to) [
            | inl past ↦ omega (arith, le, starts_later from (λ j low lt. h j low (omega (arith, lt, past))))
            | inr before ↦ seen.none_longer from to before h
          ];
    }

last_more : (told : List Told) (i longest most len : ℕ) → IsByte (get_or told i Gap) → SeenTo told i longest most len → AreBytesTold told (i - len) (i + 1)
last_more told i longest most len byte seen j le lt =
    elim (cases_lt j i) [
      | inl before ↦ seen.last j le before
      | inr past ↦ let here : i ≡ j = omega (arith, lt, past) in subst (λ (k : ℕ). IsByte (get_or told k Gap)) here byte
    ]

no_more_than : (told : List Told) (i longest most len from : ℕ) → SeenTo told i longest most len → AreBytesTold told from (i + 1) → i ≤ from + len
no_more_than told i longest most len from seen h = seen.no_more from (λ j le lt. h j le (omega (arith, lt)))

pub past_byte : (told : List Told) (i longest most len at wide next : ℕ) → IsByte (get_or told i Gap) → next ≡ len + 1 → at ≡ longest → wide ≡ most → next ≤ most → SeenTo told i longest most len → SeenTo told (i + 1) at wide next
past_byte told i longest most len at wide next byte more same width fewer seen = record {
  within = omega (arith, more, seen.within);
  last = λ j le lt. last_more told i longest most len byte seen j (omega (arith, more, le)) lt;
  no_more = λ from h. omega (arith, more, no_more_than told i longest most len from seen h);
  best = λ j le lt. seen.best j (omega (arith, same, le)) (omega (arith, same, width, lt));
  none_longer =
      λ from to le h.
      elim (cases_lt i to) [
        | inl past ↦ omega (arith, le, more, width, fewer, no_more_than told i longest most len from seen (λ j low lt. h j low (omega (arith, lt, past))))
        | inr before ↦ omega (arith, width, seen.none_longer from to before h)
      ];
}

pub past_longest : (told : List Told) (i longest most len at wide next : ℕ) → IsByte (get_or told i Gap) → next ≡ len + 1 → at ≡ i + 1 - next → wide ≡ next → most < next → SeenTo told i longest most len → SeenTo told (i + 1) at wide next
past_longest told i longest most len at wide next byte more is width wider seen = record {
  within = omega (arith, more, seen.within);
  last = λ j le lt. last_more told i longest most len byte seen j (omega (arith, more, le)) lt;
  no_more = λ from h. omega (arith, more, no_more_than told i longest most len from seen h);
  best = λ j le lt. last_more told i longest most len byte seen j (omega (arith, more, is, le)) (omega (arith, more, is, width, lt, seen.within));
  none_longer =
      λ from to le h.
      elim (cases_lt i to) [
        | inl past ↦ omega (arith, le, more, width, no_more_than told i longest most len from seen (λ j low lt. h j low (omega (arith, lt, past))))
        | inr before ↦ omega (arith, width, wider, seen.none_longer from to before h)
      ];
}

-- all is looked at
pub all_seen : (told : List Told) (i longest most len : ℕ) → length told ≤ i → SeenTo told i longest most len → IsLongestFrom told longest
all_seen told i longest most len whole seen from to h j low lt =
    let starts : from < to = elim (cases_lt from to) [ inl before ↦ before | inr past ↦ absurd (omega (arith, low, lt, past)) ] in
    let ends : to ≤ length told =
    elim (cases_lt (to - 1) (length told)) [
      | inl inside ↦ omega (arith, starts, inside)
      | inr past ↦ absurd (none_past told (to - 1) past (h (to - 1) (omega (arith, starts)) (omega (arith, starts))))
    ] in
    seen.best j low (omega (arith, lt, starts, seen.none_longer from to (omega (arith, ends, whole)) h))

-- a text that is told somewhere is one of bytes that are told from its number on
text_bytes : (before after : List Told) (bytes : List ℕ) → AreBytesTold (before ++ (map One bytes ++ after)) (length before) (length before + length bytes)
text_bytes before after bytes j low lt =
    let k : ℕ = j - length before in
    let few : k < length bytes = omega (arith, low, lt) in
    let here : length before + k ≡ j = omega (arith, low) in
    let is : get_or (before ++ (map One bytes ++ after)) j Gap ≡ One (get_or bytes k 0) =
    ap (λ (n : ℕ). get_or (before ++ (map One bytes ++ after)) n Gap) (sym here)
    ∙ get_or-append-add before (map One bytes ++ after) k Gap
    ∙ get_or_append_left (map One bytes) after Gap k (omega (arith, few, length-map bytes One))
    ∙ get_or-map One bytes k 0 Gap few in
    subst IsByte (sym is) tt

pub no_longer : (told : List Told) (from i : ℕ) (text : List ℕ) → IsLongestFrom told from → i ≡ from + length text → (IsByte (get_or told i Gap) → ⊥) → IsLongest told text
no_longer told from i text longest far none before after bytes is =
    let bytes_there = subst (λ (l : List Told). AreBytesTold l (length before) (length before + length bytes)) (sym is) (text_bytes before after bytes) in
    elim (cases_lt (length text) (length bytes)) [
      | inl longer ↦ absurd (none (longest (length before) (length before + length bytes) bytes_there i (omega (arith, far)) (omega (arith, far, longer))))
      | inr le ↦ le
    ]
