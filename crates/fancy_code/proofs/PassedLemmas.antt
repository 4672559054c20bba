-- Positions that a search passes over, since no match starts there.
use Rattle.std.proofs.Common.{◌≡◌, ℕ, ◌+◌, ◌-◌, ◌<◌, ◌≤◌, List, length, None, sym, subst, arith, slice_index}
use Rattle.std.specs.Prelude.{IfSome}
use Rattle.fancy_bytes.specs.Openings.{opening, StandsBefore}
use Rattle.fancy_tree.specs.declared.tree.Assertion.TheVariants.{TextStart, LineStart, WordBoundary}
use Rattle.fancy_prefilter.specs.NextOpening.{LacksOpening, StartsNot, by_byte, by_anchor, by_opening, by_reach, IsOffAnchor}
use Rattle.fancy_prefilter.specs.Prefilters.{text_in, window_in, branches_in}
use Rattle.fancy_prefilter.specs.declared.prefilter.Anchor.{Anchor}
use Rattle.fancy_prefilter.specs.declared.prefilter.Anchor.TheVariants.{Anywhere, AtStart, AtLines, AtWords}
use Rattle.fancy_prefilter.specs.declared.prefilter.Opening.{Opening}
use Rattle.fancy_prefilter.specs.declared.prefilter.Opening.TheVariants.{Untold, Text, Window, Sets, Words}
use Rattle.fancy_code.specs.declared.code.Code.{Code}
use Rattle.fancy_code.specs.Branches.{AreBranches}
use Rattle.fancy_code.specs.Code.{instrs_of}
use Rattle.fancy_code.specs.Compile.{IsCodeOf}
use Rattle.fancy_code.specs.Foretold.{AreForetold, StartsAt}
use Rattle.fancy_meaning.specs.Search.{Query, answer_at, answer_from, context_of}
use Rattle.fancy_code.proofs.ForetoldLemmas.{none_foretold, none_anchored, none_branched, start_fails, within_line, inside_word}
use Rattle.fancy_meaning.proofs.OpenLemmas.{opening_stands}
use Rattle.fancy_meaning.proofs.SearchLemmas.{is-no_answer}
use Rattle.fancy_meaning.proofs.SkipLemmas.{skip_none}
use Rattle.fancy_code.proofs.RegionLemmas.{none_required}
use Rattle.fancy_code.proofs.StartLemmas.{none_starts}

module _ (q : Query) (code : Code) (is : IsCodeOf q.sought.pattern code) (meant : q.sought.meaning ≡ code.meaning) (inside : q.request.range_end ≤ length q.haystack)
    (bytes : (k : ℕ) → slice_index q.haystack k < 256) where
  -- where what each match opens with does not stand
  none_opens : (o : Opening) → IfSome (text_in o) (λ t. t ≡ opening code.meaning q.sought.pattern) → IfSome (window_in o) (λ sets. AreForetold sets code)
      → IfSome (branches_in o) (λ b. AreBranches b (instrs_of code) code.meaning code.start) → (p : ℕ) → p ≤ q.request.range_end
      → LacksOpening o q.haystack q.request.range_end p → answer_at q p ≡ None
  none_opens Untold opens foretold branched p le never = absurd never
  none_opens (Text t) same foretold branched p le lacks =
      is-no_answer q p
      (λ h. lacks (subst (λ (u : List ℕ). StandsBefore q.haystack q.request.range_end u p) (sym same)
      (rw meant at (opening_stands q p h))))
  none_opens (Window sets) opens told branched p le lacks = none_foretold q code is meant inside bytes sets told p le lacks
  none_opens (Sets sets) opens told branched p le lacks = none_foretold q code is meant inside bytes sets.items told p le lacks
  none_opens (Words b) opens foretold told p le lacks = none_branched q code is meant inside bytes b told p le lacks

  -- where the anchor says that none starts
  none_off : (a : Anchor) → StartsAt a (instrs_of code) code.start → (p : ℕ) → p ≤ q.request.range_end → IsOffAnchor a q.haystack p → answer_at q p ≡ None
  none_off Anywhere told p le off = absurd off
  none_off AtStart told p le off = none_anchored q code is meant inside TextStart told p le (start_fails (context_of q) p off)
  none_off (AtLines set) told p le off =
      none_anchored q code is meant inside LineStart told.1 p le (within_line (context_of q) set told.0 p off)
  none_off (AtWords set) told p le off =
      none_anchored q code is meant inside WordBoundary told.1 p le (inside_word (context_of q) set bytes told.0 p off)

  starts_not : (p : ℕ) → p ≤ q.request.range_end → StartsNot code.prefilter q.haystack q.request.range_end p → answer_at q p ≡ None
  starts_not p le (by_byte never) = none_starts q code.prefilter.starts (rw meant is.starts) bytes p never
  starts_not p le (by_anchor off) = none_off code.prefilter.anchor is.anchored p le off
  starts_not p le (by_reach lacks) = none_required q inside bytes p le code.prefilter.region (rw meant is.required) lacks
  starts_not p le (by_opening lacks) = none_opens code.prefilter.opening is.opens is.foretold is.branched p le lacks

  -- positions where no match starts may be passed over
  pub openings_passed : (n m p r : ℕ) → p ≤ r → r ≤ q.request.range_end + 1 → n ≡ (r - p) + m →
      ((k : ℕ) → p ≤ k → k < r → StartsNot code.prefilter q.haystack q.request.range_end k) → answer_from q n p ≡ answer_from q m r
  openings_passed n m p r le within count none =
      skip_none q (r - p) n m p r count (omega (arith, le)) (λ k from before. starts_not k (omega (arith, before, within)) (none k from before))
