-- Laws of the trace and of the search, which the contracts of the module `laws` promise.
use Rattle.std.specs.Prelude.{◌≡◌, ℕ, ◌+◌, ◌≤◌, Bool, List, true, false, [], length, if◌then◌else◌, ◌==◌, Some, None, ◌↔◌}
use Rattle.fancy_tree.specs.Pattern.{Pattern}
use Rattle.fancy_meaning.specs.Context.{Context, State}
use Rattle.fancy_meaning.specs.Events.{stay, bind, prefer, star}
use Rattle.fancy_meaning.specs.Trace.{trace}
use Rattle.fancy_meaning.specs.Search.{Query, Answer, search, accepted, IsAccepted}
use Rattle.fancy_meaning.specs.Forward.{EachOutcome, IsBetween}
use Rattle.std.specs.Char.{len_utf8}
use Rattle.fancy_input.specs.Places.{is_boundary, char_at, char_before}
use Rattle.fancy_meaning.specs.Placed.{any_place, has_keep_start, has_keep_start_in_look_around, KeepsBoundaries, IsKeptFrom, LiesWithin}
use Rattle.fancy_meaning.specs.Answers.{HasNone, IsAnswer, IsLongestAnswer}

-- The star is one more turn and then the star, or leaving; a turn that ends where it began fails. Greedy, the turn comes first, and lazy, leaving.
abbrev pub StarIs : Type 0
StarIs =
    (x : Context) (limit : ℕ) (greedy : Bool) (body : Pattern) (s : State) → s.place ≤ limit →
    star greedy limit (trace x limit body) s
    ≡ prefer greedy
    (bind (trace x limit body s) (λ t. if t.place == s.place then [] else star greedy limit (trace x limit body) t))
    (stay s)

-- each outcome of a pattern stands at or after the place where it started, and by the limit
abbrev pub OutcomesStayWithin : Type 0
OutcomesStayWithin =
    (x : Context) (limit : ℕ) (p : Pattern) (s : State) → s.place ≤ limit → EachOutcome (IsBetween s.place limit) (trace x limit p s)

-- the test of acceptance tells exactly the accepted states
abbrev pub AcceptanceIsDecided : Type 0
AcceptanceIsDecided = (q : Query) (p : ℕ) (s : State) → (accepted q p s ≡ true) ↔ IsAccepted q p s

-- the search answers with none exactly where no position has an accepted outcome
abbrev pub NoneIsNone : Type 0
NoneIsNone = (q : Query) → (search q ≡ None) ↔ HasNone q

-- where the first outcome is asked for, the answer is the first accepted one of the least position that has one
abbrev pub AnswerIsLeastAndFirst : Type 0
AnswerIsLeastAndFirst = (q : Query) (f : Answer) → q.sought.longest ≡ false → search q ≡ Some f → IsAnswer q f

-- where the longest match is asked for, the answer is the first of those that end last, of the accepted ones at the least position that has one
abbrev pub AnswerIsLeastAndLongest : Type 0
AnswerIsLeastAndLongest = (q : Query) (f : Answer) → q.sought.longest ≡ true → search q ≡ Some f → IsLongestAnswer q f

-- What is found lies within the range with all its groups, and for text each of them stands on boundaries.
abbrev pub GroupsLieWithin : Type 0
GroupsLieWithin =
    (q : Query) (f : Answer) → q.request.range_end ≤ length q.haystack → search q ≡ Some f →
    LiesWithin q any_place f × (KeepsBoundaries q → LiesWithin q (is_boundary q.haystack) f)

-- Where a pattern has no `\K` in look-around and starts with its kept start between k and its place, each outcome has its kept start there too.
abbrev pub StartsAreKeptForward : Type 0
StartsAreKeptForward =
    (x : Context) (k limit : ℕ) (p : Pattern) → has_keep_start_in_look_around p ≡ false → (s : State) → IsKeptFrom k s →
    EachOutcome (IsKeptFrom k) (trace x limit p s)

-- a pattern without `\K` has none in look-around
abbrev pub NoneIsKeptInside : Type 0
NoneIsKeptInside = (p : Pattern) → has_keep_start p ≡ false → has_keep_start_in_look_around p ≡ false

-- the character c starts somewhere, and its bytes reach to p
pub record Reaches (haystack : List ℕ) (p c : ℕ) : Type 0 where
  pub start : ℕ
  pub starts : char_at haystack start ≡ Some c
  pub reaches : start + len_utf8 c ≡ p

-- a character ends at p exactly where it starts somewhere and reaches to p
abbrev pub CharactersEndWhereTheyReach : Type 0
CharactersEndWhereTheyReach = (haystack : List ℕ) (p c : ℕ) → (char_before haystack p ≡ Some c) ↔ Reaches haystack p c
