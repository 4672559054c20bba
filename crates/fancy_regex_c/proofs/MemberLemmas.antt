-- The matches of the members of a set, one after another.
use Rattle.std.proofs.Common.{◌≡◌, ◌∙◌, ◌<◌, ◌≤◌, ◌+◌, ◌-◌, ◌^◌, ℕ, suc, true, List, [], ◌∷◌, ◌++◌, Option, Some, filter, length, refl, sym, ap, subst, arith, append_assoc, append-nil}
use Rattle.std.proofs.Math.Logic.{∥∥₁_elim}
use Rattle.std.proofs.Props.{props}
use Rattle.std.proofs.lemmas.List.{length-append}
use Rattle.std.proofs.lemmas.Option.{slice_get_within}
use Rattle.std.specs.List.{range_with_len, AllZip}
use Rattle.fancy_regex.specs.declared.Error.{Error}
use Rattle.fancy_regex.specs.declared.Regex.{Regex}
use Rattle.fancy_regex.specs.declared.RegexSet.{RegexSet}
use Rattle.fancy_regex.specs.declared.RegexSetMatchesAt.{RegexSetMatchesAt}
use Rattle.fancy_regex.specs.declared.Request.{Request as Asked}
use Rattle.fancy_regex.specs.declared.Span.{Span as Found}
use Rattle.fancy_regex.specs.Groups.{span_at}
use Rattle.fancy_regex.specs.SetMatches.{set_of, haystack_of_set, request_of_set, position_of, question_of}
use Rattle.fancy_regex.specs.SetMembers.{SetQuery, has_answer_at, members_at, members_at_from, NoneBetween, IsMemberItem, RefusesMember}
use Rattle.fancy_regex.specs.Sets.{members_of}
use Rattle.fancy_regex.specs.Spans.{from_to}
use Rattle.fancy_regex.proofs.SetLemmas.{member_finds, few_members}
use Rattle.fancy_regex.proofs.SetListLemmas.{kept_from, zip_push}
use Rattle.fancy_regex_c.specs.declared.handed.Handed.{Handed}
use Rattle.fancy_regex_c.specs.declared.plain.Member.{Member}
use Rattle.fancy_regex_c.specs.Buffers.{filled, PutsNext}
use Rattle.fancy_regex_c.specs.declared.plain.Request.{Request}
use Rattle.fancy_regex_c.specs.Asked.{asked, asked_of_set}
use Rattle.fancy_regex_c.specs.Handed.{handed_bytes}
use Rattle.fancy_regex_c.specs.SetFinding.{IsMatchOf, PutsMatches}
use Rattle.fancy_regex_c.proofs.FilledLemmas.{filled_with_none, length-filled}

-- the same set, haystack and request ask the same
pub asks_same_of_set : {g : _} (s t : RegexSetMatchesAt Handed g) → set_of t ≡ set_of s → haystack_of_set t ≡ haystack_of_set s → request_of_set t ≡ request_of_set s
    → question_of handed_bytes t ≡ question_of handed_bytes s
asks_same_of_set s t e f d = same (set_of t) (set_of s) (haystack_of_set t) (haystack_of_set s) (request_of_set t) (request_of_set s) e f d
  where
    asks : RegexSet → Handed → Asked → SetQuery
    asks set haystack request = record { members = members_of set; haystack = handed_bytes haystack; request = request }

    same : (x y : RegexSet) (h k : Handed) (r u : Asked) → x ≡ y → h ≡ k → r ≡ u → asks x h r ≡ asks y k u
    same x y h k r u e f d = rw (e, f, d) refl

-- a member that has an item is one
pub member_is_within : (q : SetQuery) (p k : ℕ) (r : Regex) (spans : List (Option Found)) → IsMemberItem q p k r spans → k < length q.members
member_is_within q p k r spans item = ∥∥₁_elim item.is (hlevel props) (λ is. slice_get_within q.members k r is)

-- so its index is one of few
pub member_within : {g : _} (s : RegexSetMatchesAt Handed g) (k : ℕ) (r : Regex) (spans : List (Option Found)) → IsMemberItem (question_of handed_bytes s) (position_of s) k r spans → k < 2 ^ 63
member_within s k r spans item =
    let within = member_is_within (question_of handed_bytes s) (position_of s) k r spans item in
    let few = few_members (set_of s) in
    omega (arith, within, few)

-- what was asked, and where, are the same
same_item : (q s : SetQuery) (p at k : ℕ) (r : Regex) (spans : List (Option Found)) → s ≡ q → at ≡ p → IsMemberItem s at k r spans → IsMemberItem q p k r spans
same_item q s p at k r spans e f item = rw (e, f) at item

pub same_refusal : (q s : SetQuery) (p at k : ℕ) (e : Error) → s ≡ q → at ≡ p → RefusesMember s at k e → RefusesMember q p k e
same_refusal q s p at k e f g refuses = rw (f, g) at refuses

same_none : (q s : SetQuery) (p at i k : ℕ) → s ≡ q → at ≡ p → NoneBetween s at i k → NoneBetween q p i k
same_none q s p at i k e f none = rw (e, f) at none

same_left : (q s : SetQuery) (p at i : ℕ) → s ≡ q → at ≡ p → members_at_from s at i ≡ members_at_from q p i
same_left q s p at i e f = rw (e, f) refl

module _ (q : SetQuery) (p : ℕ) where
  -- the member before which none has an outcome is the next one
  pub next_member_is : (i k : ℕ) → i ≤ k → k < length q.members → NoneBetween q p i k → has_answer_at q p k ≡ true → members_at_from q p i ≡ k ∷ members_at_from q p (k + 1)
  next_member_is i k reached inside none is =
      let skipped : members_at_from q p i ≡ members_at_from q p k =
      kept_from (has_answer_at q p) i (length q.members - i) (k - i) k (length q.members - k) (omega (arith, reached)) (omega (arith, reached, inside)) (λ j from below. none j from (omega (arith, below, reached))) in
      let more : length q.members - k ≡ suc (length q.members - (k + 1)) = omega (arith, inside) in
      let here : filter (has_answer_at q p) (range_with_len k (suc (length q.members - (k + 1)))) ≡ k ∷ members_at_from q p (k + 1) = rw is refl in
      skipped ∙ (ap (λ (n : ℕ). filter (has_answer_at q p) (range_with_len k n)) more ∙ here)

  -- the item of a call, where the calls ask the same
  pub member_is_next : (s t : SetQuery) (at to i j k : ℕ) (r : Regex) (spans : List (Option Found)) (m : Member) → s ≡ q → at ≡ p → t ≡ q → to ≡ p → i ≤ k → j ≡ k + 1
      → NoneBetween s at i k → IsMemberItem s at k r spans → m.pattern ≡ k → span_at spans 0 ≡ Some (from_to m.start m.end)
      → (members_at_from s at i ≡ k ∷ members_at_from t to j) × IsMatchOf q p k m
  member_is_next s t at to i j k r spans m e f e' f' reached next none found pattern span =
      let item = same_item q s p at k r spans e f found in
      let here = next_member_is i k reached (member_is_within q p k r spans item) (same_none q s p at i k e f none) (member_finds q p k r spans item) in
      let rest : members_at_from t to j ≡ members_at_from q p (k + 1) = same_left q t p to j e' f' ∙ ap (λ (n : ℕ). members_at_from q p n) next in
      (same_left q s p at i e f ∙ (here ∙ ap (λ (xs : List ℕ). k ∷ xs) (sym rest)), record { pattern = pattern; regex = r; spans = spans; item = item; span = span })

  -- How far the matches are put: those of some members are in the buffer, and others are left.
  pub record Gives (all left : List ℕ) (old now : List Member) (count : ℕ) : Type 0 where
    pub indices : List ℕ
    pub found : List Member
    pub each : AllZip (IsMatchOf q p) indices found
    pub order : all ≡ indices ++ left
    pub counted : length found ≡ count
    pub put : now ≡ filled found old

  pub gives_first : (all : List ℕ) (old : List Member) (count : ℕ) → count ≡ 0 → Gives all all old old count
  gives_first all old count e = rw e (record {
    indices = [];
    found = [];
    each = tt;
    order = refl;
    counted = refl;
    put = sym (filled_with_none old);
  })

  pub gives_more : (all left rest : List ℕ) (old now next : List Member) (count k : ℕ) (m : Member) → left ≡ k ∷ rest → IsMatchOf q p k m → PutsNext m now next count
      → Gives all left old now count → Gives all rest old next (count + 1)
  gives_more all left rest old now next count k m e match puts g = record {
    indices = g.indices ++ (k ∷ []);
    found = g.found ++ (m ∷ []);
    each = zip_push (IsMatchOf q p) g.indices g.found k m g.each match;
    order = g.order ∙ (ap (λ (z : List ℕ). g.indices ++ z) e ∙ sym (append_assoc g.indices (k ∷ []) rest));
    counted = length-append g.found (m ∷ []) ∙ ap (λ (n : ℕ). n + 1) g.counted;
    put = puts g.found old g.counted g.put;
  }

  pub gives_all : (all left : List ℕ) (old now : List Member) (count : ℕ) → left ≡ [] → Gives all left old now count → PutsMatches q p all old now count
  gives_all all left old now count e g = record {
    found = g.found;
    each = (let whole : all ≡ g.indices = g.order ∙ (ap (λ (z : List ℕ). g.indices ++ z) e ∙ append-nil g.indices) in rw whole g.each);
    counted = sym g.counted;
    put = g.put;
  }

-- what is asked of an iterator over the answer to a request
pub asks_as_asked : {g : _} (set : RegexSet) (bytes : List ℕ) (r : Request) (m : RegexSetMatchesAt Handed g) (haystack : Handed) (request : Asked) → set_of m ≡ set → haystack_of_set m ≡ haystack
    → handed_bytes haystack ≡ bytes → request_of_set m ≡ request → request ≡ asked r → question_of handed_bytes m ≡ asked_of_set set bytes r
asks_as_asked set bytes r m haystack request of_set of_haystack are of_request is = same (set_of m) (haystack_of_set m) (request_of_set m) of_set of_haystack of_request
  where
    same : (s : RegexSet) (h : Handed) (u : Asked) → s ≡ set → h ≡ haystack → u ≡ request → record { members = members_of s; haystack = handed_bytes h; request = u } ≡ asked_of_set set bytes r
    same s h u e f d = rw (e, f, are, d, is) refl

pub puts_the_same : (q s : SetQuery) (p : ℕ) (left : List ℕ) (old new : List Member) (wanted : ℕ) → s ≡ q → left ≡ members_at s p → PutsMatches s p left old new wanted
    → PutsMatches q p (members_at q p) old new wanted
puts_the_same q s p left old new wanted e f puts =
    subst (λ (x : SetQuery). PutsMatches x p (members_at x p) old new wanted) e (subst (λ (xs : List ℕ). PutsMatches s p xs old new wanted) f puts)

pub length_put : (q : SetQuery) (p : ℕ) (indices : List ℕ) (old new : List Member) (wanted : ℕ) → PutsMatches q p indices old new wanted → length new ≡ length old
length_put q p indices old new wanted puts = ap length puts.put ∙ length-filled puts.found old
