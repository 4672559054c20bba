-- What is seen at a place tells which tests of the place hold there.
use Rattle.std.proofs.Common.{◌≡◌, ℕ, ◌+◌, ◌<◌, ◌≤◌, Bool, true, not, ◌&&◌, ◌||◌, ◌∙◌, List, Option, Some, None, refl, sym, ap, ap₂, arith, true≢false, option_map}
use Rattle.std.specs.Prelude.{if◌then◌else◌, slice_get, IfSome}
use Rattle.std.proofs.lemmas.Bool.{le-leb}
use Rattle.fancy_code.specs.Attempt.{context_in, instrs_in}
use Rattle.fancy_code.specs.declared.attempt.Attempt.{Attempt}
use Rattle.fancy_meaning.specs.declared.reading.Reading.{Reading}
use Rattle.fancy_meaning.specs.Reading.{unit_read}
use Rattle.fancy_code.specs.Instructions.{Instruction, Match, Fail, Character, Member, RawByte, Assert, Split, Open, Close, Enter, Commit, Look, Deny, Test, Back, Recall, Keep, Continue, Taken}
use Rattle.fancy_code.specs.Run.{instr_at}
use Rattle.fancy_meaning.proofs.ReadingLemmas.{low_unit}
use Rattle.fancy_tree.specs.Sets.{differ}
use Rattle.fancy_tree.specs.declared.tree.Assertion.{Assertion}
use Rattle.fancy_tree.specs.declared.tree.Assertion.TheVariants.{TextStart, TextEnd, LineStart, LineEnd, LineStartCrlf, LineEndCrlf, LastLine, LastLineCrlf, WordBoundary, NotWordBoundary, WordStart, WordEnd, WordStartHalf, WordEndHalf}
use Rattle.fancy_meaning.specs.Context.{Context, holds, unit_at, unit_in}
use Rattle.fancy_alphabet.specs.Alike.{IsAlike, IsSeenLike, ascii_unit}
use Rattle.fancy_alphabet.specs.Classes.{AreClasses, sight_for}
use Rattle.fancy_alphabet.specs.Units.{cut, place_after, unit_by}
use Rattle.fancy_alphabet.specs.Sides.{AreToldBy, IsBefore, holds_between, is_told_between, seen_as, side_of}
use Rattle.fancy_alphabet.specs.Sights.{IsSeen, IsSeenAs, seen_in}
use Rattle.fancy_alphabet.specs.Effects.{Seen, effect_of, moves_if}
use Rattle.fancy_alphabet.specs.declared.classes.Classes.{Classes}
use Rattle.fancy_alphabet.specs.declared.side.Side.{Side}
use Rattle.fancy_alphabet.specs.declared.side.Tests.{Tests}
use Rattle.fancy_alphabet.specs.declared.sight.Sight.{Sight}
use Rattle.fancy_alphabet.proofs.SideLemmas.{low_side_after}

pub holds_seen : (x : Context) (limit p : ℕ) (s : Seen) → IsSeen x limit p s → (a : Assertion) → is_told_between a ≡ true
    → holds_between s.before s.after a ≡ holds x a p
unfolding holds
holds_seen x limit p s is TextStart t = is.before.counts
holds_seen x limit p s is TextEnd t = is.after.counts
holds_seen x limit p s is LineStart t = ap₂ (λ a b. a || b) is.before.start is.before.feed
holds_seen x limit p s is LineEnd t = ap₂ (λ a b. a || b) is.after.end is.after.feed
holds_seen x limit p s is LineStartCrlf t =
    ap₂ (λ a b. a || b) is.before.start (ap₂ (λ a b. a || b) is.before.feed (ap₂ (λ a b. a && b) is.before.return (ap not is.after.feed)))
holds_seen x limit p s is LineEndCrlf t =
    ap₂ (λ a b. a || b) is.after.end (ap₂ (λ a b. a || b) is.after.return (ap₂ (λ a b. a && b) is.after.feed (ap not is.before.return)))
holds_seen x limit p s is LastLine t = absurd (true≢false (sym t))
holds_seen x limit p s is LastLineCrlf t = absurd (true≢false (sym t))
holds_seen x limit p s is WordBoundary t = ap₂ differ is.before.word is.after.word
holds_seen x limit p s is NotWordBoundary t = ap not (ap₂ differ is.before.word is.after.word)
holds_seen x limit p s is WordStart t = ap₂ (λ a b. a && b) (ap not is.before.word) is.after.word
holds_seen x limit p s is WordEnd t = ap₂ (λ a b. a && b) is.before.word (ap not is.after.word)
holds_seen x limit p s is WordStartHalf t = ap not is.before.word
holds_seen x limit p s is WordEndHalf t = ap not is.after.word

abbrev seen_by : Tests → Seen → Seen
seen_by t s = record { before = seen_as t s.before; after = seen_as t s.after; unit = s.unit }

-- an instruction does the same where no more is seen than the tests of the code tell apart
alike_seen : (t : Tests) (code : List Instruction) → AreToldBy t code → (s : Seen) (q : ℕ) (i : Instruction) → instr_at code q ≡ i → effect_of s i ≡ effect_of (seen_by t s) i
alike_seen t code told s q Match e = refl
alike_seen t code told s q Fail e = refl
alike_seen t code told s q (Character c next) e = refl
alike_seen t code told s q (Member edges next) e = refl
alike_seen t code told s q (RawByte byte next) e = refl
alike_seen t code told s q (Assert a next) e = ap (λ (b : Bool). moves_if b next) (sym (told q a next e s.before s.after))
alike_seen t code told s q (Split x y) e = refl
alike_seen t code told s q (Open group next) e = refl
alike_seen t code told s q (Close group next) e = refl
alike_seen t code told s q (Enter body) e = refl
alike_seen t code told s q (Commit next) e = refl
alike_seen t code told s q (Look behind body next) e = refl
alike_seen t code told s q (Deny behind body next) e = refl
alike_seen t code told s q (Test body other) e = refl
alike_seen t code told s q (Back n next) e = refl
alike_seen t code told s q (Recall folded number moved still) e = refl
alike_seen t code told s q (Keep next) e = refl
alike_seen t code told s q (Continue next) e = refl
alike_seen t code told s q (Taken number next) e = refl

seen_alike : (t : Tests) (code : List Instruction) → AreToldBy t code → (s : Seen) → IsAlike code s (seen_by t s)
seen_alike t code told s q = alike_seen t code told s q (instr_at code q) refl

-- nothing is read where there is no reading
not_read : (r : Option Reading) → option_map unit_read r ≡ None → r ≡ None
not_read None e = refl
not_read (Some x) e = cc

module _ (a : Attempt) (p : ℕ) where
  -- the unit is that of the meaning
  pub unit_is : unit_at (context_in a) p ≡ unit_in a.code.now.meaning a.haystack.now p
  unfolding unit_at
  unit_is = refl

  -- the unit of an ASCII character
  pub ascii_read : (byte : ℕ) → byte < 128 → p < a.last → slice_get a.haystack.now p ≡ Some byte → ascii_unit byte ≡ unit_by (context_in a) a.last p
  ascii_read byte low before here =
      let within : p + 1 ≤ a.last = omega (arith, before) in
      sym (ap (cut a.last p) (unit_is ∙ low_unit a.code.now.meaning a.haystack.now p byte low here)
      ∙ ap (λ (b : Bool). if b then ascii_unit byte else None) (le-leb (p + 1) a.last within))

  -- an ASCII character is treated as the one that stands for its class
  pub like_ascii : (classes : Classes) → AreClasses classes (instrs_in a) → (s : Side) (byte : ℕ) → IsBefore (context_in a) p s → byte < 128 → p < a.last
      → slice_get a.haystack.now p ≡ Some byte → IsSeenLike a p (sight_for classes (seen_as classes.tests s) byte)
  like_ascii classes are s byte stands low before here = record {
    whole = record { before = s; after = side_of byte; unit = ascii_unit byte };
    seen = record { before = stands; after = low_side_after (context_in a) p byte low here; unit = ascii_read byte low before here };
    alike = λ q. seen_alike classes.tests (instrs_in a) are.tests (record { before = s; after = side_of byte; unit = ascii_unit byte }) q
        ∙ are.members (seen_as classes.tests s) byte low q;
    width = refl;
    ends = λ e. absurd (cc);
    fits = omega (arith, before);
  }

  -- other characters are seen as far as the tests of the code tell apart
  pub like_wide : (t : Tests) → AreToldBy t (instrs_in a) → (s : Sight) → IsSeenAs (context_in a) a.last p t s → (fits : IfSome s.reading (λ r. p + r.width ≤ a.last)) → IsSeenLike a p s
  like_wide t told s is fits = record {
    whole = seen_in is.0;
    seen = is.1;
    alike = λ q. seen_alike t (instrs_in a) told (seen_in is.0) q ∙ ap (λ (x : Sight). effect_of (seen_in x) (instr_at (instrs_in a) q)) (sym is.2);
    width = ap (λ (x : Sight). place_after p (option_map unit_read x.reading)) is.2;
    ends = λ e. ap (λ (x : Sight). x.reading) is.2 ∙ not_read is.0.reading e;
    fits = fits;
  }
