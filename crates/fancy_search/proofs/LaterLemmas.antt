-- A search that goes on: from a later position on it answers as the whole one, where nothing was found before.
use Rattle.std.proofs.Common.{◌≡◌, ◌+◌, ◌-◌, ◌*◌, ◌≤◌, ◌<◌, ◌∙◌, ℕ, zero, suc, Bool, true, false, List, Option, Some, None, IfNone, length, refl, sym, subst, ap, ap₂, arith, true≢false}
use Rattle.std.specs.Prelude.{is_some, nat_lt, not, option_map, slice_index, ◌&&◌, ◌||◌}
use Rattle.std.proofs.lemmas.Bool.Decides.{nat_tests}
use Rattle.fancy_bytes.specs.Firsts.{first_bytes, has_start_bytes}
use Rattle.std.specs.Option.{option_or}
use Rattle.fancy_input.specs.Requests.{effective_start, positions}
use Rattle.fancy_input.specs.declared.input.Request.{Request}
use Rattle.fancy_input.specs.Work.{HasWorkFor}
use Rattle.fancy_input.specs.declared.work.Work.{Work}
use Rattle.fancy_input.specs.declared.span.Span.{Span}
use Rattle.fancy_meaning.specs.Context.{State}
use Rattle.fancy_meaning.specs.Search.{Query, Answer, answer_at, answer_from, context_of, is_match_boundary, search}
use Rattle.fancy_meaning.proofs.AttemptLemmas.{search_over}
use Rattle.fancy_code.specs.Code.{instrs_of}
use Rattle.fancy_code.specs.Compile.{AreEasy, IsCodeOf}
use Rattle.fancy_code.specs.Queries.{answer_with, query_of, unfiltered}
use Rattle.fancy_code.specs.declared.code.Code.{Code}
use Rattle.fancy_code.specs.declared.found.Found.{Found}
use Rattle.fancy_code.proofs.ClassifyLemmas.{easy_code}
use Rattle.fancy_code.proofs.PositionLemmas.{attempt_answer, first_thread, search_skip}
use Rattle.fancy_automaton.specs.Decided.{IsAnsweredFrom}
use Rattle.fancy_meaning.specs.Tried.{NoneTried}
use Rattle.fancy_runner.specs.KeptTable.{past_tried}
use Rattle.fancy_runner.specs.Searched.{IsAnsweredBy, answer_past}
use Rattle.fancy_runner.specs.declared.search.Searched.{Searched}
use Rattle.fancy_tree.specs.Pattern.{Pattern}
use Rattle.fancy_meaning.specs.declared.options.SearchOptions.{SearchOptions}
use Rattle.fancy_search.specs.Options.{search_options}
use Rattle.fancy_search.specs.Programs.{program_groups, asked_of, program_is_easy}
use Rattle.fancy_search.specs.declared.program.Program.{Program}
use Rattle.fancy_search.proofs.ProgramSizeLemmas.{parts_of_easy}
use Rattle.fancy_states.specs.Search.{IsFoundAs, groups_of}
use Rattle.fancy_search.proofs.SearchedLemmas.{known, known_tests}

-- easy code answers the same at a position wherever the search begins, and wherever `\G` holds
module _ (q : Query) (code : Code) (is : IsCodeOf q.sought.pattern code) (groups : q.sought.groups ≡ code.groups) (meant : q.sought.meaning ≡ code.meaning)
    (only : q.sought.not_empty ≡ false) (first : q.sought.longest ≡ false) (inside : q.request.range_end ≤ length q.haystack) (easy : AreEasy (instrs_of code))
    (start : ℕ) (later : Bool) where
  abbrev other : Query
  other = record q { request = record q.request { start = start }; continues = later }

  alike_by : (p : ℕ) → p ≤ q.request.range_end → (b : Bool) → is_match_boundary q.sought.on_boundaries q.haystack p ≡ b → answer_at other p ≡ answer_at q p
  alike_by p to false may = search_skip other p first may ∙ sym (search_skip q p first may)
  alike_by p to true may =
      let x = context_of other in
      sym (attempt_answer other code is groups meant only first inside x x.continues_at refl easy p (first_thread code p) refl to may)
      ∙ attempt_answer q code is groups meant only first inside x x.continues_at refl easy p (first_thread code p) refl to may

  alike : (n p : ℕ) → n + p ≤ q.request.range_end + 1 → answer_from other n p ≡ answer_from q n p
  unfolding answer_from
  alike zero p le = refl
  alike (suc n) p le =
      ap₂ (λ (s : Option State) (rest : Option Answer). option_or (option_map (λ s. record { position = p; state = s }) s) rest)
      (alike_by p (omega (arith, le)) (is_match_boundary q.sought.on_boundaries q.haystack p) refl) (alike n (p + 1) (omega (arith, le)))

  -- so the search from a place on answers as that of the whole does from there on
  pub later_easy : q.request.anchored ≡ false → effective_start q.request ≤ start → start ≤ q.request.range_end → search other ≡ answer_past q start
  later_easy free from to =
      let begins : effective_start other.request ≡ start = omega (arith, from) in
      let count : positions other.request ≡ past_tried q.request - start = rw free (omega (arith, from, to)) in
      ap₂ (answer_from other) count begins ∙ alike (past_tried q.request - start) start (rw free (omega (arith, from, to)))

-- the same of what is asked of a program
pub later_search : (r : Program) (haystack : List ℕ) (request : Request) (start : ℕ) (on later : Bool) → program_is_easy r ≡ true → request.range_end ≤ length haystack
    → request.anchored ≡ false → effective_start request ≤ start → start ≤ request.range_end
    → search (asked_of r haystack (record request { start = start }) later) ≡ answer_past (asked_of r haystack request on) start
later_search r haystack request start on later easy inside free from to =
    let parts = parts_of_easy _ _ _ easy in
    known _ _ r.compiled
    (λ compiled. later_easy (asked_of r haystack request on) r.code compiled.coded refl (sym r.meant) parts.1 parts.2 inside (easy_code _ (r.light parts.0)) start later free from to)

-- what is asked of an easy program has neither of the two filters
pub without_filters : (r : Program) (haystack : List ℕ) (request : Request) (on : Bool) → program_is_easy r ≡ true → (P : Query → Type 0)
    → P (record (asked_of r haystack request on) { sought = record (asked_of r haystack request on).sought { not_empty = false; longest = false } }) → P (asked_of r haystack request on)
without_filters r haystack request on easy P is =
    let parts = parts_of_easy _ _ _ easy in
    let q : Bool → Bool → Query = λ n l. record (asked_of r haystack request on) { sought = record (asked_of r haystack request on).sought { not_empty = n; longest = l } } in
    subst P (ap₂ q (sym parts.1) (sym parts.2)) is

-- what tells whether the code of an easy program finds something tells whether the program does
pub tells_some : (r : Program) (haystack : List ℕ) (request : Request) (on found : Bool) (options : SearchOptions) → program_is_easy r ≡ true → options ≡ search_options r.options
    → ((p : Pattern) → IsCodeOf p r.code → found ≡ is_some (search (query_of p r.code (unfiltered options) haystack request on))) → found ≡ is_some (search (asked_of r haystack request on))
tells_some r haystack request on found options easy same tells =
    without_filters r haystack request on easy (λ (q : Query). found ≡ is_some (search q)) (known_tests _ _ r.compiled (λ compiled. rw (r.meant, same) at (tells _ compiled.coded)))

-- what the code of an easy program finds the program does
pub tells_found : (r : Program) (haystack : List ℕ) (request : Request) (on : Bool) (m : Option Found) (options : SearchOptions) → program_is_easy r ≡ true → options ≡ search_options r.options
    → ((p : Pattern) → IsCodeOf p r.code → IsFoundAs r.code m (search (query_of p r.code (unfiltered options) haystack request on)))
    → answer_with (groups_of (program_groups r) (search (asked_of r haystack request on))) m ≡ search (asked_of r haystack request on)
tells_found r haystack request on m options easy same tells =
    without_filters r haystack request on easy (λ (q : Query). answer_with (groups_of r.code.groups (search q)) m ≡ search q)
    (known _ _ r.compiled (λ compiled. rw (r.meant, same) at (tells _ compiled.coded).same))

-- and where it finds nothing, nor does the program
pub tells_none : (r : Program) (haystack : List ℕ) (request : Request) (on : Bool) (options : SearchOptions) → program_is_easy r ≡ true → options ≡ search_options r.options
    → ((p : Pattern) → IsCodeOf p r.code → search (query_of p r.code (unfiltered options) haystack request on) ≡ None) → search (asked_of r haystack request on) ≡ None
tells_none r haystack request on options easy same tells =
    without_filters r haystack request on easy (λ (q : Query). search q ≡ None) (known _ _ r.compiled (λ compiled. rw (r.meant, same) at (tells _ compiled.coded)))

-- what a search came to where it found nothing
pub past_answered : (q : Query) (groups : List (Option Span)) (s : Searched) → IsAnsweredBy q groups s → s.found ≡ None → answer_past q s.reached ≡ search q
past_answered q groups s is none = ap (λ (m : Option Found). option_or (answer_with groups m) (answer_past q s.reached)) (sym none) ∙ is

-- what holds where nothing was found
pub where_none : (m : Option Found) (P : Type 0) → (is_some m ≡ false → P) → IfNone m P
where_none None P so = so refl
where_none (Some f) P so = tt

pub none_is : (m : Option Found) → is_some m ≡ false → m ≡ None
none_is None e = refl
none_is (Some f) e = absurd (true≢false e)

-- what a search came to is its answer where it reached the end
pub all_answered : (q : Query) (groups : List (Option Span)) (s : Searched) → IsAnsweredBy q groups s → IfNone s.found (past_tried q.request ≤ s.reached) → answer_with groups s.found ≡ search q
all_answered q groups s is ended = by s.found refl ended where
  by : (m : Option Found) → s.found ≡ m → IfNone m (past_tried q.request ≤ s.reached) → answer_with groups s.found ≡ search q
  by None e past = ap (answer_with groups) e ∙ sym (search_over q (past_tried q.request - s.reached) s.reached (omega (arith, past))) ∙ past_answered q groups s is e
  by (Some f) e past = ap (answer_with groups) e ∙ ap (λ (m : Option Found). option_or (answer_with groups m) (answer_past q s.reached)) (sym e) ∙ is

-- the steps that are paid for positions before a place are not ahead of the others
pub paid_before : (n first place past before after : ℕ) → first ≤ place → place ≤ past → after ≤ before + n * (place - first) → after + n * (past - place) ≤ before + n * (past - first)
paid_before n first place past before after low high paid =
    let whole : past - first ≡ (place - first) + (past - place) = omega (arith, low, high) in
    omega (arith, paid, ap (λ (k : ℕ). n * k) whole)

-- fewer are those of the positions from a place on
pub fewer_from : (n first place past : ℕ) → first ≤ place → n * (past - place) ≤ n * (past - first)
fewer_from n first place past le =
    let whole : past - first ≡ (past - place) + ((past - first) - (past - place)) = omega (arith, le) in
    omega (arith, ap (λ (k : ℕ). n * k) whole)

-- a limit that allows so many steps allows fewer
pub work_for_fewer : (limit : Option ℕ) (more fewer : ℕ) (w : Work) → fewer ≤ more → HasWorkFor limit more w → HasWorkFor limit fewer w
work_for_fewer None more fewer w le for = tt
work_for_fewer (Some most) more fewer w le for = omega (arith, le, for)

-- the steps at fewer places than are paid for are paid
pub part_paid : (n part left whole taken before after : ℕ) → part ≤ left → after ≤ before + n * part → taken + n * left ≤ n * whole → taken + after ≤ before + n * whole
part_paid n part left whole taken before after le one two =
    let all : left ≡ part + (left - part) = omega (arith, le) in
    omega (arith, one, two, ap (λ (k : ℕ). n * k) all)

-- what is asked from a place on, where no match begins before it
module _ (r : Program) (haystack : List ℕ) (request : Request) (place : ℕ) (from : effective_start request ≤ place) where
  -- no position is tried of it where none is of the whole
  pub rest_untried : (seek on : Bool) → NoneTried seek (asked_of r haystack request on) → NoneTried seek (asked_of r haystack (record request { start = place }) on)
  rest_untried seek on none p low high = none p (omega (arith, from, low)) high

  -- it has the answer of the whole
  pub rest_same : (on later : Bool) → program_is_easy r ≡ true → request.range_end ≤ length haystack → request.anchored ≡ false → place ≤ request.range_end
      → IsAnsweredFrom (asked_of r haystack request on) place
      → search (asked_of r haystack (record request { start = place }) later) ≡ search (asked_of r haystack request on)
  rest_same on later easy inside free to is =
      later_search r haystack request place on later easy inside free from to
      ∙ ap (λ (k : ℕ). answer_from (asked_of r haystack request on) k place) (rw free (omega (arith, from, to))) ∙ is

-- past the last place nothing is found
pub rest_none : (q : Query) (place : ℕ) → q.request.range_end < place → IsAnsweredFrom q place → search q ≡ None
rest_none q place past is = sym is ∙ search_over q (q.request.range_end + 1 - place) place (omega (arith, past))

fewer_tried : (seeks starts near far begins : Bool) → (near ≡ true → far ≡ true) → (not seeks || (not starts || (far && begins))) ≡ false → (not seeks || (not starts || (near && begins))) ≡ false
fewer_tried false starts near far begins wider none = none
fewer_tried true false near far begins wider none = none
fewer_tried true true false far begins wider none = refl
fewer_tried true true true far begins wider none = ap (λ (b : Bool). b && begins) (sym (wider refl)) ∙ none

-- where no position is tried, none is of what is asked up to an earlier end
pub part_untried : (r : Program) (haystack : List ℕ) (request : Request) (cut : ℕ) (seek on : Bool) → cut ≤ request.range_end
    → NoneTried seek (asked_of r haystack request on) → NoneTried seek (asked_of r haystack (record request { range_end = cut }) on)
part_untried r haystack request cut seek on within none p low high =
    let q = asked_of r haystack request on in
    fewer_tried seek (has_start_bytes q.sought.pattern) (nat_lt p cut) (nat_lt p request.range_end) (first_bytes q.sought.meaning q.sought.pattern (slice_index haystack p))
    (λ lt. grind (arith, nat_tests)) (none p low (omega (arith, high, within)))
