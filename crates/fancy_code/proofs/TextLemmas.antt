-- The text that code consumes first, an instruction at a time.
use Rattle.std.proofs.Common.{◌≡◌, ℕ, zero, suc, ◌+◌, ◌<◌, ◌≤◌, ◌==◌, Bool, List, [], ◌∷◌, ◌++◌, length, drop, Option, Some, None, if◌then◌else◌, refl, sym, ap, subst, ◌∙◌, arith, eq-eqb, eqb-true, append_assoc}
use Rattle.std.specs.Prelude.{slice_get}
use Rattle.std.proofs.lemmas.Bool.{le-leb}
use Rattle.std.proofs.lemmas.List.{append-nil}
use Rattle.fancy_tree.specs.declared.tree.Meaning.{Meaning}
use Rattle.fancy_tree.specs.declared.tree.Meaning.TheVariants.{Unicode, Bytes, AsciiText}
use Rattle.fancy_bytes.specs.Items.{encoding}
use Rattle.fancy_bytes.specs.Openings.{StandsBefore}
use Rattle.fancy_meaning.specs.Context.{Context, State, Unit_at, moved_to, unit_at, past_item, option_to}
use Rattle.fancy_meaning.specs.Events.{Event, outcome}
use Rattle.fancy_code.specs.Instructions.{Instruction, Character, Match}
use Rattle.fancy_code.specs.Run.{Raw, Note, Go, fetched, Foretells, act, before, instr_at, onward, run}
use Rattle.fancy_code.specs.Thread.{IsKnown, events_of}
use Rattle.fancy_code.specs.Texts.{GivesEvents, BeginsWith, EndsWith, ConsumesTo}
use Rattle.fancy_code.proofs.ForetoldLemmas.{before_told, onward_told, foretells_all, foretells_imply, item_at}
use Rattle.fancy_bytes.proofs.ItemBytesLemmas.{low_text}
use Rattle.fancy_meaning.proofs.ReadingLemmas.{low_unit}

-- an ASCII character is its byte

first_byte : (bytes : List ℕ) (p c : ℕ) (rest : List ℕ) → drop p bytes ≡ c ∷ rest → slice_get bytes p ≡ Some c
first_byte [] zero c rest e = cc
first_byte [] (suc p) c rest e = cc
first_byte (b ∷ bs) zero c rest e = cc
first_byte (b ∷ bs) (suc p) c rest e = first_byte bs p c rest e

low_encoding : (m : Meaning) (c : ℕ) → c < 128 → encoding m c ≡ c ∷ []
low_encoding Unicode c low = low_text c low
low_encoding Bytes c low = refl
low_encoding AsciiText c low = low_text c low

low_past : (x : Context) (p c : ℕ) → c < 128 → slice_get x.haystack p ≡ Some c → past_item x (λ d. d == c) p ≡ Some (p + 1)
unfolding past_item unit_at
low_past x p c low e =
    ap (λ (o : Option Unit_at). option_to o None (λ u. if u.code == c then Some (p + u.width) else None)) (low_unit x.meaning x.haystack p c low e)
    ∙ ap (λ (b : Bool). if b then Some (p + 1) else None) (eq-eqb c c refl)

-- what is given

gives_before : (es : List Event) (o : Option (List Raw)) → GivesEvents es o → GivesEvents es (before (Note fetched) o)
gives_before es None g = tt
gives_before es (Some w) g = g

gives_onward : (es : List Event) (limit : ℕ) (go : Go) (next : ℕ) (s : State) (v : List ℕ) (o : Option ℕ) (q : ℕ) → o ≡ Some q → q ≤ limit → GivesEvents es (go next (moved_to s q) v)
    → GivesEvents es (onward limit go next s v o)
gives_onward es limit go next s v o q e le g =
    subst (λ (r : Option ℕ). GivesEvents es (onward limit go next s v r)) (sym e)
    (subst (λ (b : Bool). GivesEvents es (if b then (go next (moved_to s q) v) else (Some []))) (sym (le-leb q limit le)) g)

pub given_events : (es : List Event) (o : Option (List Raw)) → IsKnown o → GivesEvents es o → events_of o ≡ es
given_events es None known g = absurd known
given_events es (Some w) known g = g

module _ (code : List Instruction) (m : Meaning) where
  -- by the instruction

  begins_by : (text : List ℕ) (at : ℕ) (i : Instruction) → instr_at code at ≡ i
      → ((x : Context) (limit n : ℕ) (s : State) (v : List ℕ) → x.meaning ≡ m
      → Foretells (StandsBefore x.haystack limit text s.place) (act x limit at i (run x limit code n) (run x (length x.haystack) code n) s v))
      → BeginsWith code m text at
  begins_by text at i is f x limit zero s v meant = tt
  begins_by text at i is f x limit (suc n) s v meant =
      before_told (StandsBefore x.haystack limit text s.place) fetched (act x limit at (instr_at code at) (run x limit code n) (run x (length x.haystack) code n) s v)
      (subst (λ (j : Instruction). Foretells (StandsBefore x.haystack limit text s.place) (act x limit at j (run x limit code n) (run x (length x.haystack) code n) s v)) (sym is)
      (f x limit n s v meant))

  ends_by : (text : List ℕ) (at : ℕ) (i : Instruction) → instr_at code at ≡ i
      → ((x : Context) (limit n : ℕ) (s : State) (v : List ℕ) → x.meaning ≡ m → StandsBefore x.haystack limit text s.place
      → GivesEvents (outcome (moved_to s (s.place + length text)) ∷ []) (act x limit at i (run x limit code n) (run x (length x.haystack) code n) s v))
      → EndsWith code m text at
  ends_by text at i is f x limit zero s v meant stands = tt
  ends_by text at i is f x limit (suc n) s v meant stands =
      gives_before (outcome (moved_to s (s.place + length text)) ∷ []) (act x limit at (instr_at code at) (run x limit code n) (run x (length x.haystack) code n) s v)
      (subst (λ (j : Instruction). GivesEvents (outcome (moved_to s (s.place + length text)) ∷ []) (act x limit at j (run x limit code n) (run x (length x.haystack) code n) s v)) (sym is)
      (f x limit n s v meant stands))

  begins_empty : (at : ℕ) → BeginsWith code m [] at
  begins_empty at x limit n s v meant = foretells_all (Unit {0}) tt (run x limit code n at s v)

  ends_match : (at : ℕ) → instr_at code at ≡ Match → EndsWith code m [] at
  ends_match at is =
      ends_by [] at Match is
      (λ x limit n s v meant stands. let here : s.place ≡ s.place + 0 = omega arith in ap (λ (p : ℕ). outcome (moved_to s p) ∷ []) here)

  module _ (c at next : ℕ) (low : c < 128) (is : instr_at code at ≡ Character c next) where
    begins_character : (text : List ℕ) → BeginsWith code m text next → BeginsWith code m (c ∷ text) at
    begins_character text f =
        begins_by (c ∷ text) at (Character c next) is
        (λ x limit n s v meant.
        onward_told (StandsBefore x.haystack limit (c ∷ text) s.place) limit (run x limit code n) next s v (past_item x (λ d. d == c) s.place)
        (λ q past within.
        let h = item_at x (λ d. d == c) s.place q past in
        let same : h.code ≡ c = eqb-true h.code c h.passes in
        let bytes : encoding x.meaning h.code ≡ c ∷ [] = ap (encoding x.meaning) same ∙ low_encoding x.meaning c low in
        let end : q ≡ s.place + 1 = h.ends ∙ ap (λ (l : List ℕ). s.place + length l) bytes in
        let first : slice_get x.haystack s.place ≡ Some c = first_byte x.haystack s.place c h.rest (h.bytes ∙ ap (λ (l : List ℕ). l ++ h.rest) bytes) in
        foretells_imply (StandsBefore x.haystack limit text (s.place + 1)) (StandsBefore x.haystack limit (c ∷ text) s.place)
        (λ later. (omega (arith, within, end), first, later))
        (run x limit code n next (moved_to s q) v)
        (subst (λ (p : ℕ). Foretells (StandsBefore x.haystack limit text p) (run x limit code n next (moved_to s q) v)) end (f x limit n (moved_to s q) v meant))))

    ends_character : (text : List ℕ) → EndsWith code m text next → EndsWith code m (c ∷ text) at
    ends_character text f =
        ends_by (c ∷ text) at (Character c next) is
        (λ x limit n s v meant stands.
        let p : ℕ = s.place in
        let end : p + 1 + length text ≡ p + length (c ∷ text) = omega arith in
        gives_onward (outcome (moved_to s (p + length (c ∷ text))) ∷ []) limit (run x limit code n) next s v (past_item x (λ d. d == c) p) (p + 1)
        (low_past x p c low stands.1) (omega (arith, stands.0))
        (subst (λ (q : ℕ). GivesEvents (outcome (moved_to s q) ∷ []) (run x limit code n next (moved_to s (p + 1)) v)) end
        (f x limit n (moved_to s (p + 1)) v meant stands.2)))

  -- a text, and what follows it

  pub consumes_none : (head : ℕ) → ConsumesTo code m [] head head
  consumes_none head = record { begins = λ more f. f; ends = λ more f. f }

  pub consumes_more : (text : List ℕ) (head at c next : ℕ) → ConsumesTo code m text head at → c < 128 → instr_at code at ≡ Character c next → ConsumesTo code m (text ++ c ∷ []) head next
  consumes_more text head at c next before low is =
      record {
        begins = λ more f. subst (λ (l : List ℕ). BeginsWith code m l head) (sym (append_assoc text (c ∷ []) more)) (before.begins (c ∷ more) (begins_character c at next low is more f));
        ends = λ more f. subst (λ (l : List ℕ). EndsWith code m l head) (sym (append_assoc text (c ∷ []) more)) (before.ends (c ∷ more) (ends_character c at next low is more f));
      }

  pub text_begins : (text : List ℕ) (head at : ℕ) → ConsumesTo code m text head at → BeginsWith code m text head
  text_begins text head at to = subst (λ (l : List ℕ). BeginsWith code m l head) (append-nil text) (to.begins [] (begins_empty at))

  pub text_ends : (text : List ℕ) (head at : ℕ) → ConsumesTo code m text head at → instr_at code at ≡ Match → EndsWith code m text head
  text_ends text head at to is = subst (λ (l : List ℕ). EndsWith code m l head) (append-nil text) (to.ends [] (ends_match at is))
