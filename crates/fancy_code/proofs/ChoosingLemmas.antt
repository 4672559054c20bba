-- Ways of a choice that begin among some bytes.
use Rattle.std.proofs.Common.{◌≡◌, ℕ, ◌<◌, ◌==◌, Bool, true, false, inl, inr, if◌then◌else◌, eq-eqb, List, [], ◌∷◌, length, Option, Some, None, refl, sym, ap, ◌∙◌, subst, arith, true≢false}
use Rattle.std.specs.Prelude.{slice_index, slice_index_or}
use Rattle.fancy_tree.specs.declared.tree.Meaning.{Meaning}
use Rattle.std.proofs.lemmas.Bool.Decides.{eqb_tells}
use Rattle.fancy_bytes.specs.Sets.{ByteFlags, member}
use Rattle.fancy_bytes.specs.Rows.{StandsFrom, set_at}
use Rattle.fancy_code.specs.Choices.{has_stop, stops, BeginsAmong, way_beside}
use Rattle.fancy_code.specs.Foretold.{Foretold}
use Rattle.fancy_code.specs.Instructions.{Instruction, Split}
use Rattle.fancy_code.specs.Run.{Raw, Note, Stop, AllStops, Foretells, run}

-- no way stops where that would say what does not hold
never_stops : (P : Type 0) → ¬ P → (w : List Raw) → AllStops (λ q s v. P) w → has_stop w ≡ false
never_stops P never [] h = refl
never_stops P never (Note m ∷ w) h = never_stops P never w h
never_stops P never (Stop q s v ∷ w) h = absurd (never h.0)

pub none_foretold : (P : Type 0) → ¬ P → (o : Option (List Raw)) → Foretells P o → stops o ≡ false
none_foretold P never None h = refl
none_foretold P never (Some w) h = never_stops P never w h

-- the byte that stands at the first place of what is consumed
pub by_first : (code : List Instruction) (m : Meaning) (sets : List ByteFlags) (q : ℕ) → Foretold code m sets 0 true q → 0 < length sets → BeginsAmong code m (set_at sets 0) q
by_first code m sets q told some x limit n s v meant bytes lacks =
    none_foretold (StandsFrom sets x.haystack limit 0 s.place)
    (λ stands.
    let there : member (set_at sets 0) (slice_index x.haystack s.place) ≡ true =
    subst (λ (p : ℕ). member (set_at sets 0) (slice_index x.haystack p) ≡ true) (omega arith) (stands 0 (omega arith) some).1 in
    true≢false (sym there ∙ lacks))
    (run x limit code n q s v)
    (told x limit n s v 0 s.place meant bytes (omega arith) (λ e. refl) (omega arith))

pub some_sets : (sets : List ByteFlags) (n : ℕ) → n ≡ length sets → false ≡ (n == 0) → 0 < length sets
some_sets [] n e h = absurd (true≢false (sym (h ∙ ap (λ (k : ℕ). k == 0) e)))
some_sets (s ∷ sets) n e h = omega arith

pub first_default : (sets : List ByteFlags) (d e : ByteFlags) → 0 < length sets → slice_index_or sets 0 d ≡ slice_index_or sets 0 e
first_default [] d e some = absurd (omega (arith, some))
first_default (s ∷ sets) d e some = refl

-- the way beside each of the two
pub beside_first : (i : Instruction) (a b : ℕ) → i ≡ Split a b → way_beside i a ≡ Some b
beside_first i a b is =
    ap (λ (j : Instruction). way_beside j a) is ∙ ap (λ (t : Bool). if t then (Some b) else (if b == a then (Some a) else None)) (eq-eqb a a refl)

pub beside_second : (i : Instruction) (a b : ℕ) → i ≡ Split a b → way_beside i b ≡ Some a
beside_second i a b is =
    elim (eqb_tells a b) [
      | inl same ↦ ap (λ (j : Instruction). way_beside j b) is ∙ ap (λ (t : Bool). if t then (Some b) else (if b == b then (Some a) else None)) same.0 ∙ ap Some (sym same.1)
      | inr other ↦
          ap (λ (j : Instruction). way_beside j b) is ∙ ap (λ (t : Bool). if t then (Some b) else (if b == b then (Some a) else None)) other.0
          ∙ ap (λ (t : Bool). if t then (Some a) else None) (eq-eqb b b refl)
    ]
