-- What the byte sets of a pattern say of its outcomes, and of a search.
use Rattle.std.specs.Prelude.{◌≡◌, ◌↔◌, ℕ, ◌+◌, true, false, List, None}
use Rattle.fancy_tree.specs.declared.tree.Meaning.{Meaning}
use Rattle.fancy_tree.specs.Pattern.{Pattern, member_of, in_any_case}
use Rattle.fancy_tree.specs.Sets.{has, AreEdges}
use Rattle.fancy_bytes.specs.Items.{encoding, includes, is_item}
use Rattle.fancy_bytes.specs.Firsts.{nullable, first_bytes, has_start_bytes}
use Rattle.fancy_bytes.specs.Required.{required_bytes}
use Rattle.fancy_meaning.specs.Context.{Context, State}
use Rattle.fancy_meaning.specs.Trace.{trace}
use Rattle.fancy_meaning.specs.Forward.{EachOutcome}
use Rattle.fancy_meaning.specs.Search.{Query, search, answer_from}
use Rattle.fancy_meaning.specs.Answers.{HasAccepted}
use Rattle.fancy_meaning.specs.Stands.{SeesBefore, Stands, NoneSeen, BeginsBy}

-- An outcome stands where the pattern began only if the pattern is nullable, or else one of its first bytes is there, before the limit.
abbrev pub OutcomesBegin : Type 0
OutcomesBegin =
    (x : Context) (limit : ℕ) (p : Pattern) (s : State) →
    EachOutcome (BeginsBy (nullable p ≡ true) (SeesBefore x.haystack limit (first_bytes x.meaning p)) s) (trace x limit p s)

-- a pattern that is not nullable has an accepted outcome only where one of its first bytes stands within the range
abbrev pub AttemptsBegin : Type 0
AttemptsBegin =
    (q : Query) (p : ℕ) → nullable q.sought.pattern ≡ false → HasAccepted q p →
    SeesBefore q.haystack q.request.range_end (first_bytes q.sought.meaning q.sought.pattern) p

-- Where the first bytes tell, each match starts at one that stands within the range, and where it was tried.
abbrev pub MatchesBegin : Type 0
MatchesBegin =
    (q : Query) (p : ℕ) (h : HasAccepted q p) → has_start_bytes q.sought.pattern ≡ true →
    (h.state.kept ≡ p) × SeesBefore q.haystack q.request.range_end (first_bytes q.sought.meaning q.sought.pattern) h.state.kept

-- where a pattern has an outcome, each byte that it requires stands in the haystack
abbrev pub OutcomesRequire : Type 0
OutcomesRequire =
    (x : Context) (limit : ℕ) (p : Pattern) (b : ℕ) (s : State) → required_bytes x.meaning p b ≡ true →
    EachOutcome (λ t. Stands x.haystack b) (trace x limit p s)

-- where an attempt has an accepted outcome, each required byte stands in the haystack
abbrev pub AttemptsRequire : Type 0
AttemptsRequire =
    (q : Query) (p b : ℕ) → HasAccepted q p → required_bytes q.sought.meaning q.sought.pattern b ≡ true → Stands q.haystack b

-- Positions where no first byte stands within the range may be passed over.
abbrev pub SkipsLoseNothing : Type 0
SkipsLoseNothing =
    (q : Query) (d n p : ℕ) → nullable q.sought.pattern ≡ false →
    NoneSeen q.haystack q.request.range_end (first_bytes q.sought.meaning q.sought.pattern) p (p + d) → answer_from q (d + n) p ≡ answer_from q n (p + d)

-- where a required byte stands nowhere, nothing is found
abbrev pub LackingIsNone : Type 0
LackingIsNone =
    (q : Query) (b : ℕ) → required_bytes q.sought.meaning q.sought.pattern b ≡ true → ¬ Stands q.haystack b → search q ≡ None

-- A literal in any case requires a byte exactly where each of its forms has it.
abbrev pub LiteralsRequire : Type 0
LiteralsRequire =
    (m : Meaning) (edges : List ℕ) (b : ℕ) → AreEdges edges →
    (required_bytes m (in_any_case edges) b ≡ true) ↔ ((c : ℕ) → has edges c ≡ true → is_item m c ≡ true → includes (encoding m c) b ≡ true)

-- the set has one member, which is an item, and the byte stands in its encoding
pub record StandsInOne (m : Meaning) (edges : List ℕ) (b : ℕ) : Type 0 where
  pub member : ℕ
  pub is_member : has edges member ≡ true
  pub alone : (c : ℕ) → has edges c ≡ true → c ≡ member
  pub item : is_item m member ≡ true
  pub stands : includes (encoding m member) b ≡ true

-- another set requires a byte exactly where its one member has it
abbrev pub SetsRequire : Type 0
SetsRequire = (m : Meaning) (edges : List ℕ) (b : ℕ) → AreEdges edges → (required_bytes m (member_of edges) b ≡ true) ↔ StandsInOne m edges b
