-- What the answers of the members of a pattern set say of the set.
use Rattle.std.proofs.Common.{◌≡◌, ℕ, zero, suc, ◌+◌, ◌-◌, ◌<◌, ◌≤◌, ◌^◌, true, false, List, [], Option, Some, None, Ok, Err, IfNone, IsSome, option_map, is_some, length, slice_get, inl, inr, refl, sym, ◌∙◌, subst, arith}
use Rattle.std.proofs.lemmas.Bool.Decides.{leb_tells}
use Rattle.std.proofs.lemmas.Option.{slice_get_past}
use Rattle.std.proofs.Math.Logic.{∥∥₁_elim}
use Rattle.std.proofs.Props.{props}
use Rattle.fancy_tree.specs.declared.error.Error.{Error}
use Rattle.fancy_input.specs.declared.input.Request.{Request}
use Rattle.fancy_input.specs.declared.span.Span.{Span}
use Rattle.fancy_input.specs.Requests.{effective_start, positions}
use Rattle.fancy_meaning.specs.Search.{Answer, answer_at}
use Rattle.fancy_code.proofs.PositionLemmas.{positions_none}
use Rattle.fancy_search.specs.Groups.{span_at, spans_of}
use Rattle.fancy_core.specs.declared.captures.Captures.{Captures}
use Rattle.fancy_core.specs.declared.regex.Regex.{Regex}
use Rattle.fancy_core.specs.Captures.{found_by}
use Rattle.fancy_core.specs.Limited.{RefusesAt, AllowsAt}
use Rattle.fancy_core.specs.Regexes.{group_count_in, query}
use Rattle.fancy_core.specs.Searches.{groups_of_attempt}
use Rattle.fancy_regex.specs.declared.set.RegexSet.{RegexSet}
use Rattle.fancy_regex.specs.Sets.{members_of}
use Rattle.fancy_regex.specs.SetMembers.{SetQuery, asked, has_answer_at, members_at_from, members_at, any_answer_at, set_position, NoneBetween, IsMemberItem, MayStartAt, RefusesMember, RefusesSet}
use Rattle.fancy_regex.specs.SetAnswers.{IsItemOf, IsFirstOfSet}
use Rattle.fancy_regex.proofs.SetListLemmas.{nothing_kept, nothing_passes, nothing_found, kept_from, found_first, some_passes}

-- whether there are groups says whether there is an outcome
no_groups : {A B C : Type 0} (h : A → B) (f : B → C) (o : Option A) → None ≡ option_map f (option_map h o) → is_some o ≡ false
no_groups h f None e = refl
no_groups h f (Some x) e = absurd (cc)

some_groups : {A B C : Type 0} (h : A → B) (f : B → C) (o : Option A) (y : C) → Some y ≡ option_map f (option_map h o) → is_some o ≡ true
some_groups h f None y e = absurd (cc)
some_groups h f (Some x) y e = refl

-- group 0 of what was found took part
group_zero : (n : ℕ) (f : Answer) → 1 ≤ n → IsSome (span_at (spans_of n f) 0)
group_zero zero f h = absurd (omega (arith, h))
group_zero (suc n) f h = refl

whole_of_groups : (n : ℕ) (o : Option Answer) (spans : List (Option Span)) → 1 ≤ n → Some spans ≡ option_map (spans_of n) o → IsSome (span_at spans 0)
whole_of_groups n None spans h e = absurd (cc)
whole_of_groups n (Some f) spans h e = let same : spans ≡ spans_of n f = cc in rw same (group_zero n f h)

pub some_group : (r : Regex) → 1 ≤ group_count_in r
some_group r = ∥∥₁_elim r.program.compiled (hlevel props) (λ h. h.has_group_zero)

-- a set has fewer members than a number has values
pub few_members : (s : RegexSet) → length (members_of s) < 2 ^ 63
few_members s = let counted = s.members.ok.0 in let held = s.members.ok.1 in let small = s.members.small in omega (arith, counted, held, small)

-- what holds of none holds where there is none
pub if_none : {A : Type 0} (P : Type 0) (o : Option A) → ((x : A) → o ≡ Some x → ⊥) → IfNone o P → P
if_none P None unless none = none
if_none P (Some x) unless none = absurd (unless x refl)

module _ (q : SetQuery) (p : ℕ) where
  pub member_fails : (k : ℕ) (member : Regex) → slice_get q.members k ≡ Some member → None ≡ groups_of_attempt (asked q member) p → has_answer_at q p k ≡ false
  member_fails k member is e = rw is (no_groups _ _ (answer_at (asked q member) p) e)

  pub member_finds : (k : ℕ) (member : Regex) (spans : List (Option Span)) → IsMemberItem q p k member spans → has_answer_at q p k ≡ true
  member_finds k member spans item = ∥∥₁_elim item.is (hlevel props) (λ is. rw is (some_groups _ _ (answer_at (asked q member) p) spans item.groups))

  pub member_item : (k : ℕ) (member found_by : Regex) (haystack : List ℕ) (request : Request) (spans : List (Option Span)) → slice_get q.members k ≡ Some member → haystack ≡ q.haystack → request ≡ q.request
      → found_by ≡ member → Some spans ≡ groups_of_attempt (query member haystack request) p → AllowsAt member (query member haystack request) p → IsMemberItem q p k found_by spans
  member_item k member found_by haystack request spans is same_haystack same_request by groups allowed = rw by (record {
    is = ∣ is ∣₁;
    groups = subst (λ (x : Request). Some spans ≡ groups_of_attempt (query member q.haystack x) p) same_request (subst (λ (x : List ℕ). Some spans ≡ groups_of_attempt (query member x request) p) same_haystack groups);
    allowed = subst (λ (x : Request). AllowsAt member (query member q.haystack x) p) same_request (subst (λ (x : List ℕ). AllowsAt member (query member x request) p) same_haystack allowed);
  })

  pub member_refuses : (k : ℕ) (member : Regex) (e : Error) (haystack : List ℕ) (request : Request) → slice_get q.members k ≡ Some member → MayStartAt q p member → haystack ≡ q.haystack → request ≡ q.request
      → RefusesAt member (query member haystack request) p e → RefusesMember q p k e
  member_refuses k member e haystack request is starts same_haystack same_request refuses = record {
    member = member;
    is = is;
    starts = starts;
    refuses = subst (λ (x : Request). RefusesAt member (query member q.haystack x) p e) same_request (subst (λ (x : List ℕ). RefusesAt member (query member x request) p e) same_haystack refuses);
  }

  pub item_is_matched : (k : ℕ) (member : Regex) (spans : List (Option Span)) → IsMemberItem q p k member spans → IsSome (span_at spans 0)
  item_is_matched k member spans item = whole_of_groups (group_count_in member) _ spans (some_group member) item.groups

  pub none_anywhere : NoneBetween q p 0 (length q.members) → any_answer_at q p ≡ false
  none_anywhere none = nothing_passes (has_answer_at q p) 0 (length q.members - 0) (λ j from below. none j from (omega (arith, below)))

  pub none_left : (i : ℕ) → NoneBetween q p i (length q.members) → members_at_from q p i ≡ []
  none_left i none = nothing_kept (has_answer_at q p) i (length q.members - i) (λ j from below. none j from (omega (arith, from, below)))

  pub passed_over : (i : ℕ) → i ≤ length q.members → NoneBetween q p 0 i → members_at_from q p i ≡ members_at q p
  passed_over i inside none =
      sym (kept_from (has_answer_at q p) 0 (length q.members - 0) i i (length q.members - i) (omega arith) (omega (arith, inside)) (λ j from below. none j from (omega (arith, below))))

  pub some_anywhere : (k : ℕ) → k < length q.members → has_answer_at q p k ≡ true → any_answer_at q p ≡ true
  some_anywhere k inside is = some_passes (has_answer_at q p) 0 (length q.members - 0) k k (omega arith) (omega (arith, inside)) is

-- where a set stands
module _ (q : SetQuery) where
  pub nowhere : ((p : ℕ) → effective_start q.request ≤ p → p < effective_start q.request + positions q.request → any_answer_at q p ≡ false) → set_position q ≡ None
  nowhere none = nothing_found (any_answer_at q) (effective_start q.request) (positions q.request) none

  pub no_place : q.request.range_end < effective_start q.request → set_position q ≡ None
  no_place past = let none = positions_none q.request past in nowhere (λ p from below. absurd (omega (arith, from, below, none)))

  pub stands_not_nowhere : (p : ℕ) → set_position q ≡ Some p → set_position q ≡ None → ⊥
  stands_not_nowhere p some none = let e : Some p ≡ None = sym some ∙ none in cc

  -- one position more that was passed
  pub passed_one : (p : ℕ) → NoneBetween q p 0 (length q.members) → ((j : ℕ) → effective_start q.request ≤ j → j < p → any_answer_at q j ≡ false)
      → (j : ℕ) → effective_start q.request ≤ j → j < p + 1 → any_answer_at q j ≡ false
  passed_one p none passed j from below =
      elim (leb_tells p j) [
        | inl here ↦ (let le = here.1 in let same : p ≡ j = omega (arith, le, below) in subst (λ (x : ℕ). any_answer_at q x ≡ false) same (none_anywhere q p none))
        | inr before ↦ passed j from before.1
      ]

  pub passed_more : {A : Type 0} (p : ℕ) (answer : Option A) → ((x : A) → answer ≡ Some x → ⊥) → IfNone answer (NoneBetween q p 0 (length q.members))
      → ((j : ℕ) → effective_start q.request ≤ j → j < p → any_answer_at q j ≡ false) → (j : ℕ) → effective_start q.request ≤ j → j < p + 1 → any_answer_at q j ≡ false
  passed_more p (Some x) unless none passed = absurd (unless x refl)
  passed_more p None unless none passed = passed_one p none passed

module _ {S : Type 0} {g : _} (q : SetQuery) (haystack : S) (p k : ℕ) where
  pub stands_first : (captures : Captures S g) → IsFirstOfSet q haystack p k (Ok captures) → set_position q ≡ Some p
  stands_first captures s =
      found_first (any_answer_at q) (effective_start q.request) (positions q.request) (p - effective_start q.request) p (let from = s.from in omega (arith, from))
      (let before = s.before in let from = s.from in omega (arith, from, before))
      (λ j from below. s.passed j from (let start = s.from in omega (arith, start, below)))
      (some_anywhere q p k s.here.inside (member_finds q p k _ _ s.here.answers.0))

  pub has_all_left : (captures : Captures S g) → IsFirstOfSet q haystack p k (Ok captures) → members_at_from q p k ≡ members_at q p
  has_all_left captures s = passed_over q p k (let inside = s.here.inside in omega (arith, inside)) s.here.first

  pub set_refused : (e : Error) → IsFirstOfSet {S = S} {g = g} q haystack p k (Err e) → RefusesSet q e
  set_refused e s = record {
    position = p;
    from = s.from;
    before = s.before;
    passed = s.passed;
    index = k;
    first = s.here.first;
    refuses = s.here.answers;
  }

-- a member that there is has an index within the set
inside_or_not : {A : Type 0} (xs : List A) (k : ℕ) (x : A) → slice_get xs k ≡ Some x → k < length xs
inside_or_not xs k x is =
    elim (leb_tells (length xs) k) [
      | inl past ↦ (let none : slice_get xs k ≡ None = slice_get_past xs k past.1 in absurd (cc))
      | inr inside ↦ inside.1
    ]

-- what one call of `next` gives
module _ {S : Type 0} {g : _} (q : SetQuery) (haystack : S) (p : ℕ) where
  pub item_is_inside : (k : ℕ) (captures : Captures S g) → IsItemOf q haystack p k captures → k < length q.members
  item_is_inside k captures item = ∥∥₁_elim item.0.is (hlevel props) (λ is. inside_or_not q.members k _ is)

  -- what was kept is the item of the member that is asked next
  pub kept_item : (k pattern : ℕ) (captures given : Captures S g) → pattern ≡ k → given ≡ captures → IsItemOf q haystack p k captures → IsItemOf q haystack p pattern given
  kept_item k pattern captures given same_index same item = rw (same_index, same) item

-- no index is before the one that is asked next
pub none_before : (q : SetQuery) (p k index : ℕ) → index ≡ k → NoneBetween q p k index
none_before q p k index same j from below = absurd (omega (arith, same, from, below))
