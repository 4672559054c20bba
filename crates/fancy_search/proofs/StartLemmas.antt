-- Where a match may start, from the start bytes of its pattern.
use Rattle.std.proofs.Common.{◌≡◌, ℕ, zero, suc, ◌<◌, Bool, true, false, not, ◌||◌, List, [], ◌∷◌, Option, Some, None, slice_get, take, refl, sym, subst, ◌∙◌, arith, true≢false}
use Rattle.std.proofs.Math.Logic.{∥∥₁_elim}
use Rattle.std.proofs.Props.{props}
use Rattle.fancy_tree.specs.declared.tree.Meaning.{Meaning}
use Rattle.fancy_tree.specs.Pattern.{Pattern}
use Rattle.fancy_bytes.specs.Firsts.{nullable, has_start_bytes, first_bytes, AreStartBytes}
use Rattle.fancy_bytes.specs.Sets.{ByteFlags, member}
use Rattle.fancy_bytes.proofs.BoolLemmas.{parts_of}
use Rattle.fancy_meaning.specs.Search.{Query, answer_at}
use Rattle.fancy_meaning.proofs.SkipLemmas.{none_here}
use Rattle.fancy_search.specs.declared.program.Program.{Program}
use Rattle.fancy_search.specs.Options.{meaning_in}
use Rattle.fancy_search.specs.Programs.{program_pattern, program_options}
use Rattle.fancy_search.specs.Starts.{may_start}

refused : (a b : Bool) → (not a || b) ≡ false → (a ≡ true) × (b ≡ false)
refused true b e = (refl, e)
refused false b e = absurd (true≢false e)

off : (b : Bool) → not b ≡ true → b ≡ false
off true e = absurd (true≢false (sym e))
off false e = refl

on : (b : Bool) → not b ≡ false → b ≡ true
on true e = refl
on false e = absurd (true≢false e)

pub get_taken : {A : Type 0} (n : ℕ) (xs : List A) (i : ℕ) → i < n → slice_get (take n xs) i ≡ slice_get xs i
get_taken zero xs i below = absurd (omega (arith, below))
get_taken (suc n) [] i below = refl
get_taken (suc n) (x ∷ xs) zero below = refl
get_taken (suc n) (x ∷ xs) (suc i) below = get_taken n xs i (omega (arith, below))

module _ (m : Meaning) (p : Pattern) where
  -- a pattern without start bytes may start before anything
  pub starts_anywhere : (next : Option ℕ) → AreStartBytes m p None → true ≡ may_start m p next
  starts_anywhere None is = rw is refl
  starts_anywhere (Some byte) is = rw is refl

  -- one with start bytes does not start at the end
  pub starts_before_byte : (set : ByteFlags) → AreStartBytes m p (Some set) → false ≡ may_start m p None
  starts_before_byte set is = rw is.0 refl

  -- and starts at those alone
  pub starts_at_member : (set : ByteFlags) (byte : ℕ) → byte < 256 → AreStartBytes m p (Some set) → member set byte ≡ may_start m p (Some byte)
  starts_at_member set byte small is = rw is.0 (is.1 byte small)

  has_starts : (next : Option ℕ) → may_start m p next ≡ false → has_start_bytes p ≡ true
  has_starts None e = on (has_start_bytes p) e
  has_starts (Some byte) e = (refused (has_start_bytes p) (first_bytes m p byte) e).0

-- nothing is found at a position where no match may start
pub none_before : (q : Query) (p : ℕ) → may_start q.sought.meaning q.sought.pattern (slice_get (take q.request.range_end q.haystack) p) ≡ false → answer_at q p ≡ None
none_before q p e =
    let has = has_starts q.sought.meaning q.sought.pattern _ e in
    let never : nullable q.sought.pattern ≡ false = off (nullable q.sought.pattern) (parts_of (not (nullable q.sought.pattern)) _ has).0 in
    none_here q p never
    (λ sees.
    let stands = get_taken q.request.range_end q.haystack p sees.0 ∙ sees.1.stands in
    let fails = subst (λ (o : Option ℕ). may_start q.sought.meaning q.sought.pattern o ≡ false) stands e in
    true≢false (sym sees.1.passes ∙ (refused (has_start_bytes q.sought.pattern) (first_bytes q.sought.meaning q.sought.pattern sees.1.byte) fails).1))

-- whether a match of a program's pattern may start
module _ (s : Program) where
  of_program : {P : Type 0} → IsProp P → (AreStartBytes (meaning_in (program_options s)) (program_pattern s) s.code.prefilter.starts → P) → P
  of_program h f =
      ∥∥₁_elim s.compiled h
      (λ compiled. f (subst (λ (m : Meaning). AreStartBytes m (program_pattern s) s.code.prefilter.starts) s.meant compiled.coded.starts))

  told : (o : Option ByteFlags) → s.code.prefilter.starts ≡ o → {P : Type 0} → IsProp P → (AreStartBytes (meaning_in (program_options s)) (program_pattern s) o → P) → P
  told o e h f = of_program h (λ is. f (subst (AreStartBytes (meaning_in (program_options s)) (program_pattern s)) e is))

  pub program_anywhere : (next : Option ℕ) → s.code.prefilter.starts ≡ None → true ≡ may_start (meaning_in (program_options s)) (program_pattern s) next
  program_anywhere next e = told None e (hlevel props) (starts_anywhere (meaning_in (program_options s)) (program_pattern s) next)

  pub program_at_end : (set : ByteFlags) (next : Option ℕ) → s.code.prefilter.starts ≡ Some set → next ≡ None → false ≡ may_start (meaning_in (program_options s)) (program_pattern s) next
  program_at_end set next e end = rw end (told (Some set) e (hlevel props) (starts_before_byte (meaning_in (program_options s)) (program_pattern s) set))

  pub program_at_byte : (set : ByteFlags) (next : Option ℕ) (byte : ℕ) (b : Bool) → byte < 256 → s.code.prefilter.starts ≡ Some set → next ≡ Some byte → b ≡ member set byte
      → b ≡ may_start (meaning_in (program_options s)) (program_pattern s) next
  program_at_byte set next byte b small e here is = rw (here, is) (told (Some set) e (hlevel props) (starts_at_member (meaning_in (program_options s)) (program_pattern s) set byte small))
