-- Where what a match goes on to does not stand, no match begins.
use Rattle.std.proofs.Common.{◌≡◌, ℕ, ◌<◌, ◌≤◌, false, length, Option, Some, None, refl, arith, slice_get, slice_index}
use Rattle.std.specs.Prelude.{IfSome}
use Rattle.std.proofs.lemmas.Option.{slice_get-get_or}
use Rattle.fancy_bytes.specs.Reads.{item_starts}
use Rattle.fancy_prefilter.specs.Regions.{IsReach, IsTarget, StandsAhead}
use Rattle.fancy_required.specs.Told.{StandsFrom}
use Rattle.fancy_prefilter.specs.declared.reach.Reach.{Reach}
use Rattle.fancy_prefilter.specs.declared.reach.Target.{Target}
use Rattle.fancy_prefilter.specs.declared.reach.Target.TheVariants.{Row, Text, TextEnd}
use Rattle.fancy_prefilter.specs.NextOpening.{LacksReach}
use Rattle.fancy_prefilter.specs.Regions.{LacksTarget, RowStands, before, nowhere}
use Rattle.fancy_meaning.specs.Answers.{HasAccepted}
use Rattle.fancy_meaning.specs.Forward.{EachOutcome, IsBetween}
use Rattle.fancy_meaning.specs.Search.{Query, answer_at, context_of, initial, trace_at}
use Rattle.fancy_meaning.proofs.BeginLemmas.{accepted_holds}
use Rattle.fancy_meaning.proofs.ForwardLemmas.{EachOutcome_imp, LeadsOn-trace}
use Rattle.fancy_meaning.proofs.SearchLemmas.{is-no_answer}
use Rattle.fancy_meaning.proofs.WalkLemmas.{EachOutcome_both}
use Rattle.fancy_code.proofs.EndsTextLemmas.{trace_ends_text}
use Rattle.fancy_code.proofs.StayLemmas.{trace_stays}
use Rattle.fancy_code.proofs.TellsLemmas.{row_stands, text_stands, trace_tells}

-- where each outcome of an attempt ends within a bound, what the pattern goes on to stands before it, if one is accepted
stands_by : (t : Target) (q : Query) → ((k : ℕ) → slice_index q.haystack k < 256) → (p end : ℕ) → IsTarget q.sought.meaning q.sought.pattern t → p ≤ q.request.range_end → EachOutcome (IsBetween p end) (trace_at q p) → HasAccepted q p
    → StandsAhead t q.haystack p end
stands_by (Text text) q bytes p end is to ends h =
    accepted_holds q p (λ t. StandsFrom q.haystack p end text.items) h
    (EachOutcome_imp _ (λ t. StandsFrom q.haystack p end text.items) (trace_at q p)
    (λ t both. text_stands q.haystack is.before is.after text.items p t.place end both.1.to both.0)
    (EachOutcome_both _ (IsBetween p end) (trace_at q p) (trace_tells (context_of q) q.request.range_end bytes is.tells (initial q p) to) ends))
stands_by (Row row) q bytes p end is to ends h =
    accepted_holds q p (λ t. RowStands q.haystack p end row.window) h
    (EachOutcome_imp _ (λ t. RowStands q.haystack p end row.window) (trace_at q p)
    (λ t both. row_stands q.haystack is.1.before is.1.after row.window p t.place end is.0 both.1.to both.0)
    (EachOutcome_both _ (IsBetween p end) (trace_at q p) (trace_tells (context_of q) q.request.range_end bytes is.1.tells (initial q p) to) ends))
stands_by TextEnd q bytes p end is to ends h =
    accepted_holds q p (λ t. length q.haystack ≤ end) h
    (EachOutcome_imp _ (λ t. length q.haystack ≤ end) (trace_at q p) (λ t both. omega (arith, both.0, both.1.to))
    (EachOutcome_both _ (IsBetween p end) (trace_at q p) (trace_ends_text (context_of q) q.sought.pattern is q.request.range_end (initial q p)) ends))

-- each accepted outcome is of an attempt that this stands past
pub target_stands : (t : Target) (q : Query) → ((k : ℕ) → slice_index q.haystack k < 256) → (p : ℕ) → IsTarget q.sought.meaning q.sought.pattern t → p ≤ q.request.range_end → HasAccepted q p → StandsAhead t q.haystack p q.request.range_end
target_stands t q bytes p is to = stands_by t q bytes p q.request.range_end is to (LeadsOn-trace (context_of q) q.request.range_end q.sought.pattern (initial q p) to)

-- it stands before a byte with which no item of the pattern begins
pub target_before : (t : Target) (q : Query) → ((k : ℕ) → slice_index q.haystack k < 256) → (p edge b : ℕ) → IsTarget q.sought.meaning q.sought.pattern t → p ≤ edge → p ≤ q.request.range_end → slice_get q.haystack edge ≡ Some b
    → slice_index q.haystack edge ≡ b → b < 128 → item_starts q.sought.meaning q.sought.pattern b ≡ false → HasAccepted q p → StandsAhead t q.haystack p edge
target_before t q bytes p edge b is le to here value low other =
    stands_by t q bytes p edge is to (trace_stays (context_of q) q.request.range_end edge b here value low q.sought.pattern other (initial q p) le)

module _ (q : Query) (inside : q.request.range_end ≤ length q.haystack) (bytes : (k : ℕ) → slice_index q.haystack k < 256) (p : ℕ) (to : p ≤ q.request.range_end) where
  lacks_none : (r : Reach) → IsReach q.sought.meaning q.sought.pattern r → LacksTarget r q.haystack q.request.range_end p → answer_at q p ≡ None
  lacks_none r is (nowhere none) = is-no_answer q p (λ h. none (target_stands r.target q bytes p is.target to h))
  lacks_none r is (before edge le lt ends) =
      let b : ℕ = slice_index q.haystack edge in
      is-no_answer q p (λ h. ends.none
      (target_before r.target q bytes p edge b is.target le to (slice_get-get_or q.haystack edge 0 (omega (arith, lt, inside))) refl ends.ascii (is.apart b (bytes edge) ends.apart) h))

  pub none_required : (o : Option Reach) → IfSome o (IsReach q.sought.meaning q.sought.pattern) → LacksReach o q.haystack q.request.range_end p → answer_at q p ≡ None
  none_required None is lacks = absurd lacks
  none_required (Some r) is lacks = lacks_none r is lacks
