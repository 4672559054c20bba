-- Where a text that does not occur in a part of the haystack does not stand.
use Rattle.std.proofs.Common.{◌≡◌, ℕ, ◌+◌, ◌-◌, ◌<◌, ◌≤◌, List, [], ◌∷◌, length, Option, None, Some, refl, sym, subst, arith, le_refl, le_trans}
use Rattle.std.specs.Prelude.{IfSome, MatchOption, slice_range}
use Rattle.fancy_bytes.specs.Rows.{StandsFrom as RowStandsFrom}
use Rattle.memchr.specs.Find.{OccursAt, Nowhere}
use Rattle.fancy_bytes.specs.Openings.{StandsBefore}
use Rattle.fancy_required.specs.Told.{StandsFrom}
use Rattle.fancy_prefilter.specs.Regions.{StandsAhead}
use Rattle.fancy_prefilter.specs.declared.reach.Reach.{Reach}
use Rattle.fancy_prefilter.specs.declared.reach.Row.{Row as RowOfSets}
use Rattle.fancy_prefilter.specs.declared.reach.Target.{Target}
use Rattle.fancy_prefilter.specs.declared.reach.Target.TheVariants.{Row, Text, TextEnd}
use Rattle.fancy_bytes.specs.Sets.{ByteFlags}
use Rattle.fancy_prefilter.specs.Windows.{NoneStandsIn}
use Rattle.fancy_prefilter.specs.Regions.{RowStands, EndsRegion, LacksTarget, before, nowhere}
use Rattle.fancy_prefilter.specs.NextOpening.{LacksReach, StartsNot, by_reach}
use Rattle.fancy_prefilter.specs.declared.prefilter.Prefilter.{Prefilter}
use Rattle.fancy_prefilter.proofs.StandsLemmas.{none_stands}

-- a text that does not occur in a part of the haystack stands nowhere there
pub stands_nowhere : (haystack : List ℕ) (from end : ℕ) (text : List ℕ) → from ≤ end → end ≤ length haystack → Nowhere (OccursAt (slice_range haystack from end) text) 0 (end - from + 1)
    → ¬ StandsFrom haystack from end text
stands_nowhere haystack from end text ordered inside none s = at text none s.stands where
  at : (t : List ℕ) → Nowhere (OccursAt (slice_range haystack from end) t) 0 (end - from + 1) → StandsBefore haystack end t s.place → ⊥
  at [] none stands = none_stands haystack from end ordered inside [] (end - from + 1) (end + 1) (omega (arith, ordered)) (omega arith) none from (le_refl from) (omega (arith, ordered)) tt
  at (b ∷ bs) none stands =
      none_stands haystack from end ordered inside (b ∷ bs) (end - from + 1) (end + 1) (omega (arith, ordered)) (omega arith) none s.place s.low (omega (arith, stands.0)) stands

stands_wider : (haystack : List ℕ) (edge end : ℕ) (text : List ℕ) (k : ℕ) → edge ≤ end → StandsBefore haystack edge text k → StandsBefore haystack end text k
stands_wider haystack edge end [] k le s = tt
stands_wider haystack edge end (b ∷ bs) k le s = (omega (arith, s.0, le), s.1, stands_wider haystack edge end bs (k + 1) le s.2)

-- nor does it stand before an edge that comes before the first place at which it occurs
pub none_before : (haystack : List ℕ) (from end : ℕ) → from ≤ end → end ≤ length haystack → (text : List ℕ) (found edge : ℕ) → from ≤ edge → edge < from + found → from + found ≤ end
    → Nowhere (OccursAt (slice_range haystack from end) text) 0 found → ¬ StandsFrom haystack from edge text
none_before haystack from end ordered inside text found edge after lower within none s = at text none s.stands where
  at : (t : List ℕ) → Nowhere (OccursAt (slice_range haystack from end) t) 0 found → StandsBefore haystack edge t s.place → ⊥
  at [] none stands = none_stands haystack from end ordered inside [] found (from + found) refl (omega (arith, within)) none from (le_refl from) (omega (arith, after, lower)) tt
  at (b ∷ bs) none stands =
      none_stands haystack from end ordered inside (b ∷ bs) found (from + found) refl (omega (arith, within)) none s.place s.low (omega (arith, stands.0, lower))
      (stands_wider haystack edge end (b ∷ bs) s.place (omega (arith, lower, within)) stands)

-- a row that stands nowhere before the first place at which one is seen does not stand before an edge that comes before that
pub no_row_before : (row : List ByteFlags) (haystack : List ℕ) (from found edge end : ℕ) → edge < found → found ≤ end → NoneStandsIn row haystack end from found → ¬ RowStands haystack from edge row
no_row_before row haystack from found edge end lower within none s =
    none s.place s.low (omega (arith, s.high, lower)) (λ j le lt. (omega (arith, (s.stands j le lt).0, lower, within), (s.stands j le lt).1))

pub row_first : (t : Target) (row : RowOfSets) (haystack : List ℕ) (from end : ℕ) (seen : Option ℕ) → t ≡ Row row
    → MatchOption seen ((k : ℕ) → from ≤ k → ¬ RowStandsFrom row.window haystack end 0 k) (λ p. (from ≤ p) × (p < end) × RowStandsFrom row.window haystack end 0 p × NoneStandsIn row.window haystack end from p)
    → IfSome seen (λ place. (edge : ℕ) → from ≤ edge → edge < place → ¬ StandsAhead t haystack from edge)
row_first t row haystack from end None is h = tt
row_first t row haystack from end (Some found) is h =
    λ edge le lt. subst (λ (u : Target). ¬ StandsAhead u haystack from edge) (sym is) (no_row_before row.window haystack from found edge end lt (omega (arith, h.1)) h.3)

-- where the target stands nowhere from a place on, it stands nowhere from a later one on
pub none_later : (t : Target) (haystack : List ℕ) (from k end : ℕ) → from ≤ k → ¬ StandsAhead t haystack from end → ¬ StandsAhead t haystack k end
none_later (Text text) haystack from k end le none s = none (record { place = s.place; low = le_trans le s.low; stands = s.stands })
none_later (Row row) haystack from k end le none s = none (record { place = s.place; low = le_trans le s.low; high = s.high; stands = s.stands })
none_later TextEnd haystack from k end le none s = none s

-- so it is of an edge
pub lacks_before : (r : Reach) (haystack : List ℕ) (from k edge end : ℕ) → from ≤ k → k ≤ edge → edge < end → EndsRegion r haystack from edge → LacksTarget r haystack end k
lacks_before r haystack from k edge end le within lt is =
    before edge within lt (record { ascii = is.ascii; apart = is.apart; none = none_later r.target haystack from k edge le is.none })

-- where it does not stand, no match starts
pub starts_not : (f : Prefilter) (r : Reach) (haystack : List ℕ) (end p : ℕ) → f.region ≡ Some r → LacksTarget r haystack end p → StartsNot f haystack end p
starts_not f r haystack end p is lacks = by_reach (subst (λ (o : Option Reach). LacksReach o haystack end p) (sym is) lacks)

pub lacks_from : (r : Reach) (haystack : List ℕ) (from k end : ℕ) → from ≤ k → ¬ StandsAhead r.target haystack from end → LacksTarget r haystack end k
lacks_from r haystack from k end le none = nowhere (none_later r.target haystack from k end le none)
