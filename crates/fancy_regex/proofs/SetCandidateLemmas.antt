-- Members of a set that may not start at a position are passed over, and have no answer there.
use Rattle.std.proofs.Common.{◌≡◌, ℕ, zero, suc, ◌+◌, ◌<◌, ◌≤◌, ◌/◌, Bool, true, false, List, [], ◌∷◌, Option, Some, None, MatchOption, is_some, length, slice_set, slice_get, slice_index, slice_index_or, take, inl, inr, refl, sym, ap, subst, ◌∙◌, arith, true≢false}
use Rattle.std.proofs.lemmas.Bool.Decides.{leb_tells}
use Rattle.std.proofs.lemmas.Grind.{common_steps}
use Rattle.std.proofs.lemmas.Option.{get_or_from_slice_get, slice_get_within}
use Rattle.std.proofs.Math.Nat.{div-one}
use Rattle.fancy_meaning.specs.Search.{answer_at}
use Rattle.fancy_search.proofs.StartLemmas.{none_before}
use Rattle.fancy_core.specs.declared.regex.Regex.{Regex}
use Rattle.fancy_core.specs.RegexStarts.{regex_may_start}
use Rattle.fancy_regex.specs.declared.set.candidates.Groups.{Groups}
use Rattle.fancy_regex.specs.declared.set.candidates.Candidates.{Candidates}
use Rattle.fancy_regex.specs.Candidates.{has_group, AreOfStarters, HoldAllAt, HoldNoOthers, HoldOnly, IsPassed, TellStarters, by_byte, by_later, IsNextGroup, NoGroupFrom, NoMemberBetween, NoStarterBetween, IsNextStarter}
use Rattle.fancy_regex.specs.SetMembers.{SetQuery, asked, has_answer_at, NoneBetween, MayStartAt}

-- what holds of the groups of all bytes below one holds with those of that byte too
pub set_below : (P : ℕ → Groups → Type 0) (groups : List Groups) (n : ℕ) (g d : Groups) → n < length groups → ((b : ℕ) → b < n → P b (slice_index_or groups b d)) → P n g
    → (b : ℕ) → b < n + 1 → P b (slice_index_or (slice_set groups n g) b d)
set_below P groups n g d small below here b le =
    elim (leb_tells n b) [
      | inl at ↦
          (let same : n ≡ b = omega (arith, at.1, le) in
          let put : slice_index_or (slice_set groups n g) n d ≡ g = grind (arith, common_steps, small) in
          subst (λ (k : ℕ). P k (slice_index_or (slice_set groups n g) k d)) same (subst (P n) (sym put) here))
      | inr before ↦
          (let other : slice_index_or (slice_set groups n g) b d ≡ slice_index_or groups b d = grind (arith, common_steps, before.1) in
          subst (P b) (sym other) (below b before.1))
    ]

module _ (members : List Regex) (searched : List ℕ) (p : ℕ) where
  joined : (a b c : ℕ) → NoStarterBetween members searched p a b → NoStarterBetween members searched p b c → NoStarterBetween members searched p a c
  joined a b c first second k r le below is =
      elim (leb_tells b k) [
        | inl later ↦ second k r later.1 below is
        | inr before ↦ first k r le before.1 is
      ]

  -- the members that are in no group
  pub in_no_group : (width : ℕ) (groups : Groups) → HoldAllAt width members searched p groups → (from to : ℕ) → NoMemberBetween width groups from to → NoStarterBetween members searched p from to
  in_no_group width groups all from to none k r le below is = all k r is (none k le below)

  -- the members of the groups that were passed, and those before them
  pub passed : (width : ℕ) (groups : Groups) → HoldAllAt width members searched p groups → (first from to : ℕ) → NoStarterBetween members searched p first from → NoMemberBetween width groups from to
      → NoStarterBetween members searched p first to
  passed width groups all first from to before none = joined first from to before (in_no_group width groups all from to none)

  -- the member that was found may start there
  pub that_one : (k : ℕ) (r : Regex) → slice_get members k ≡ Some r → regex_may_start r (slice_get searched p) ≡ true → (x : Regex) → slice_get members k ≡ Some x
      → regex_may_start x (slice_get searched p) ≡ true
  that_one k r here may x is =
      let both : Some r ≡ Some x = sym here ∙ is in
      let equal : r ≡ x = cc in
      subst (λ (y : Regex). regex_may_start y (slice_get searched p) ≡ true) equal may

  -- one more that may not start
  pub one_more : (from n : ℕ) (r : Regex) → slice_get members n ≡ Some r → regex_may_start r (slice_get searched p) ≡ false → NoStarterBetween members searched p from n
      → NoStarterBetween members searched p from (n + 1)
  one_more from n r here fails none k x le below is =
      elim (leb_tells n k) [
        | inl later ↦ (
            let past = later.1 in
            let same : k ≡ n = omega (arith, past, below) in
            let both : Some x ≡ Some r = sym is ∙ ap (slice_get members) same ∙ here in
            let equal : x ≡ r = cc in
            subst (λ (y : Regex). IsPassed y searched p) (sym equal) (by_byte fails))
        | inr before ↦ none k x le before.1 is
      ]

-- what an option says, said otherwise
pub mapped : {A : Type 0} (o : Option A) (P R : Type 0) (Q S : A → Type 0) → (P → R) → ((x : A) → Q x → S x) → MatchOption o P Q → MatchOption o R S
mapped None P R Q S none some is = none is
mapped (Some x) P R Q S none some is = some x is

-- where each member has a group of its own
module _ (members : List Regex) (searched : List ℕ) (p width : ℕ) (apart : width ≡ 1) (groups : Groups) (all : HoldAllAt width members searched p groups) (from : ℕ) where
  own : (k : ℕ) → k / width ≡ k
  own k = rw apart (div-one k)

  pub none_apart : (to : ℕ) → NoGroupFrom groups from → NoStarterBetween members searched p from to
  none_apart to none =
      in_no_group members searched p width groups all from to
      (λ k le below. subst (λ (g : ℕ). has_group groups g ≡ false) (sym (own k)) (none k le))

  pub next_apart : (k : ℕ) → AreOfStarters members (slice_get searched p) groups → IsNextGroup groups from k → IsNextStarter members searched p from k
  next_apart k only next = record {
    reached = next.reached;
    inside = (only k next.there).0;
    starts = (only k next.there).1;
    none = in_no_group members searched p width groups all from k
        (λ j le below. subst (λ (g : ℕ). has_group groups g ≡ false) (sym (own j)) (next.none j le below));
  }

-- the groups for each byte, and for none
none_others : (members : List Regex) (c : Candidates) → HoldOnly c.width members None c.at_end
    → ((b : ℕ) → b < 256 → HoldOnly c.width members (Some b) (slice_index_or c.by_byte b c.at_end)) → HoldNoOthers members c
none_others members c end bytes None small = end
none_others members c end bytes (Some b) small = bytes b small

-- the groups of starters, where each member has a group of its own
pub tell_starters : (members : List Regex) (c : Candidates) → HoldOnly c.width members None c.at_end
    → ((b : ℕ) → b < 256 → HoldOnly c.width members (Some b) (slice_index_or c.by_byte b c.at_end)) → TellStarters members c
tell_starters members c end bytes = record {
  tells = λ apart next small g there.
      (let starter = none_others members c end bytes next small g there in
      let same : starter.index ≡ g = sym (div-one starter.index) ∙ ap (λ (n : ℕ). starter.index / n) (sym apart) ∙ starter.grouped in
      let is : slice_get members g ≡ Some starter.member = subst (λ (i : ℕ). slice_get members i ≡ Some starter.member) same starter.is in (
        slice_get_within members g starter.member is,
        λ r here.
            (let both : Some starter.member ≡ Some r = sym is ∙ here in
            let equal : starter.member ≡ r = cc in
            subst (λ (y : Regex). regex_may_start y next ≡ true) equal starter.starts),
      ));
}

pub none_one_more : (q : SetQuery) (p from n : ℕ) → NoneBetween q p from n → has_answer_at q p n ≡ false → NoneBetween q p from (n + 1)
none_one_more q p from n none fails k le below =
    elim (leb_tells n k) [
      | inl later ↦ (
          let past = later.1 in
          let same : n ≡ k = omega (arith, past, below) in
          subst (λ (i : ℕ). has_answer_at q p i ≡ false) same fails)
      | inr before ↦ none k le before.1
    ]

from_taken : {A : Type 0} (n : ℕ) (xs : List A) (i : ℕ) (x : A) → slice_get (take n xs) i ≡ Some x → slice_get xs i ≡ Some x
from_taken zero xs i x e = absurd (let no : None ≡ Some x = e in cc)
from_taken (suc n) [] i x e = e
from_taken (suc n) (y ∷ ys) zero x e = e
from_taken (suc n) (y ∷ ys) (suc i) x e = from_taken n ys i x e

-- the members that are not asked at a position of the searched range
module _ (q : SetQuery) (p : ℕ) (searched : List ℕ) (there : searched ≡ take q.request.range_end q.haystack) (bytes : (k : ℕ) → slice_index q.haystack k < 256)
    (inside : q.request.range_end ≤ length q.haystack) (ends : p ≤ q.request.range_end) where
  fails : (r : Regex) → IsPassed r searched p → answer_at (asked q r) p ≡ None
  fails r (by_byte out) = none_before (asked q r) p (subst (λ (s : List ℕ). regex_may_start r (slice_get s p) ≡ false) there out)
  fails r (by_later place byte is holds) =
      let stands = from_taken q.request.range_end q.haystack (p + place) byte (subst (λ (s : List ℕ). slice_get s (p + place) ≡ Some byte) there is) in
      holds.none q.haystack q.request true p bytes inside ends (get_or_from_slice_get q.haystack (p + place) byte 0 stands)

  pub none_starts : (from to : ℕ) → NoStarterBetween q.members searched p from to → NoneBetween q p from to
  none_starts from to none k le below = by (slice_get q.members k) refl where
    by : (o : Option Regex) → slice_get q.members k ≡ o → has_answer_at q p k ≡ false
    by None e = rw e refl
    by (Some r) e = rw e (ap is_some (fails r (none k r le below e)))

  -- the members that were asked, and those that are not
  pub none_to : (first from to : ℕ) → NoneBetween q p first from → NoStarterBetween q.members searched p from to → NoneBetween q p first to
  none_to first from to before none k le below =
      elim (leb_tells from k) [
        | inl later ↦ none_starts from to none k later.1 below
        | inr earlier ↦ before k le earlier.1
      ]

pub starts_there : (q : SetQuery) (p : ℕ) (searched : List ℕ) → searched ≡ take q.request.range_end q.haystack → (r : Regex) → regex_may_start r (slice_get searched p) ≡ true → MayStartAt q p r
starts_there q p searched there r may = subst (λ (s : List ℕ). regex_may_start r (slice_get s p) ≡ true) there may

-- a member with an answer may start where that is
pub answers_start : (q : SetQuery) (p : ℕ) (r : Regex) → is_some (answer_at (asked q r) p) ≡ true → MayStartAt q p r
answers_start q p r some = by (regex_may_start r (slice_get (take q.request.range_end q.haystack) p)) refl where
  by : (b : Bool) → regex_may_start r (slice_get (take q.request.range_end q.haystack) p) ≡ b → MayStartAt q p r
  by true e = e
  by false e = absurd (true≢false (sym some ∙ ap is_some (none_before (asked q r) p e)))
