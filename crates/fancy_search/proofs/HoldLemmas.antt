-- Where no match of an easy program's pattern starts, by a byte further on.
use Rattle.std.proofs.Common.{◌≡◌, ℕ, ◌+◌, true, Option, Some, None, refl, sym, subst, arith}
use Rattle.std.specs.Option.{option_map, option_or}
use Rattle.std.proofs.Math.Logic.{∥∥₁_elim}
use Rattle.std.proofs.Props.{props}
use Rattle.fancy_meaning.specs.Context.{State}
use Rattle.fancy_meaning.specs.Search.{Answer, Query, answer_at, answer_from}
use Rattle.fancy_code.proofs.PassedLemmas.{openings_passed}
use Rattle.fancy_prefilter.specs.NextOpening.{IsRuledOut, StartsNot, by_opening}
use Rattle.fancy_search.specs.declared.program.Program.{Program}
use Rattle.fancy_search.specs.Programs.{program_is_easy, asked_of}
use Rattle.fancy_search.specs.Starts.{NeverHolds}

answer_there : ℕ → State → Answer
answer_there p s = record { position = p; state = s }

-- a position that may be passed over has no answer
none_if_passed : (q : Query) (p : ℕ) → answer_from q 1 p ≡ answer_from q 0 (p + 1) → answer_at q p ≡ None
unfolding answer_from answer_there
none_if_passed q p e = by (answer_at q p) e where
  by : (o : Option State) → option_or {T = Answer} (option_map (answer_there p) o) None ≡ None → o ≡ None
  by None e = refl
  by (Some s) e = absurd (let no : Some (answer_there p s) ≡ None = e in cc)

module _ (s : Program) where
  pub never_holds : (place byte : ℕ) → program_is_easy s ≡ true → IsRuledOut s.code.prefilter.opening place byte → NeverHolds s place byte
  never_holds place byte easy out = record {
    easy = easy;
    none = λ haystack request on p bytes inside within there.
        ∥∥₁_elim s.compiled (hlevel props)
        (λ compiled.
        none_if_passed (asked_of s haystack request on) p
        (openings_passed (asked_of s haystack request on) s.code compiled.coded (sym s.meant) inside bytes 1 0 p (p + 1) (omega arith) (omega (arith, within)) (omega arith)
        (λ k from before.
        let same : p ≡ k = omega (arith, from, before) in
        subst (StartsNot s.code.prefilter haystack request.range_end) same (by_opening (out haystack request.range_end p there)))));
  }
