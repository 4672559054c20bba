-- What refusals for the length of code say.
use Rattle.std.proofs.Common.{◌≡◌, ◌+◌, ◌*◌, ◌≤◌, ℕ, Bool, true, false, not, ◌&&◌, Option, Some, None, inl, inr, refl, sym, subst, arith}
use Rattle.std.proofs.lemmas.Bool.Decides.{nat_tests}
use Rattle.fancy_tree.specs.declared.error.CompileError.TheVariants as c
use Rattle.fancy_tree.specs.declared.error.Error.{Error}
use Rattle.fancy_tree.specs.declared.error.Error.TheVariants.{Memory, ParseError, CompileError, RuntimeError}
use Rattle.fancy_syntax.specs.Dialect.{IsPattern}
use Rattle.fancy_tree.specs.Pattern.{Pattern}
use Rattle.fancy_syntax.specs.Refusals.{IsRefused}
use Rattle.fancy_tree.specs.Sizes.{nodes}
use Rattle.fancy_tree.specs.Text.{Text}
use Rattle.fancy_syntax.proofs.ParseLemmas.{one_accepted}
use Rattle.fancy_search.specs.declared.options.Options.{Options}
use Rattle.fancy_search.specs.Options.{dialect_of, is_easy_under}
use Rattle.fancy_search.specs.ProgramSize.{passes, IsTooLong, SetsNoSize, RefusesPattern, IsRefusedUnder}

-- where no size is set, memory alone refuses a pattern of the dialect
pub refused_for_memory : (o : Options) (p : Pattern) (e : Error) → SetsNoSize o → RefusesPattern o p e → e ≡ Memory
refused_for_memory o p Memory unset h = refl
refused_for_memory o p (ParseError at kind) unset h = absurd h
refused_for_memory o p (RuntimeError why) unset h = absurd h
refused_for_memory o p (CompileError (c.InvalidBackref n)) unset h = absurd h
refused_for_memory o p (CompileError (c.InvalidGroupNameBackref name)) unset h = absurd h
refused_for_memory o p (CompileError c.NamedBackrefOnly) unset h = absurd h
refused_for_memory o p (CompileError c.LookBehindNotConst) unset h = absurd h
refused_for_memory o p (CompileError c.PatternCanNeverMatch) unset h = absurd h
refused_for_memory o p (CompileError c.PatternTooComplex) unset (hard, passed) = absurd (cc)

-- and what is refused then is no pattern of the dialect, or memory runs out
pub refused_by_text : (o : Options) (text : Text) (e : Error) → SetsNoSize o → IsRefusedUnder o text e → IsRefused e (dialect_of o) text
refused_by_text o text e unset (inl h) = h
refused_by_text o text e unset (inr h) = subst (λ (x : Error). IsRefused x (dialect_of o) text) (sym (refused_for_memory o h.0 e unset h.2)) tt

-- the parts of a test for hard patterns
pub both_of : (easy longer : Bool) → (not easy && longer) ≡ true → (easy ≡ false) × (longer ≡ true)
both_of true longer e = absurd (cc)
both_of false longer e = (refl, e)

pub second_fails : (easy longer : Bool) → easy ≡ false → (not easy && longer) ≡ false → longer ≡ false
second_fails true longer e f = absurd (cc)
second_fails false longer e f = f

-- the parts of the test for easy patterns
pub parts_of_easy : (easy not_empty longest : Bool) → (easy && (not not_empty && not longest)) ≡ true → (easy ≡ true) × (not_empty ≡ false) × (longest ≡ false)
parts_of_easy true false false e = (refl, refl, refl)
parts_of_easy true false true e = absurd (cc)
parts_of_easy true true longest e = absurd (cc)
parts_of_easy false not_empty longest e = absurd (cc)

-- what is passed by some is passed by more
passed_by_more : (m n : ℕ) (size : Option ℕ) → m ≤ n → passes m size ≡ true → passes n size ≡ true
passed_by_more m n None le e = e
passed_by_more m n (Some size) le e = grind (arith, nat_tests)

-- The code of a hard pattern that is longer than the size that was set: the one pattern of the text may be refused.
pub too_long : (o : Options) (text : Text) (p q : Pattern) (n : ℕ) → IsPattern (dialect_of o) text p → IsPattern (dialect_of o) text q →
    is_easy_under o q ≡ false → n ≤ 4 * nodes q + 2 → passes n o.max_prog_size ≡ true → IsTooLong o p
too_long o text p q n x y hard short passed =
    subst (IsTooLong o) (one_accepted y x) (hard, passed_by_more n (4 * nodes q + 2) o.max_prog_size short passed)
