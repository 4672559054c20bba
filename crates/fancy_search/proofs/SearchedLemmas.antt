-- What the runner answers is the answer of the search that a program asks for.
use Rattle.std.proofs.Common.{Result, IfOk, IfErr, ◌≡◌, ◌≤◌, ◌<◌, ◌+◌, ◌∙◌, ◌&&◌, ◌++◌, [], zero, suc, not, if◌then◌else◌, is_some, ap, ap₂, true≢false, ℕ, Bool, false, List, Option, Some, None, IfSome, refl, sym, subst, slice_index, replicate, true}
use Rattle.std.specs.Prelude.{option_map}
use Rattle.std.proofs.Math.Logic.{∥∥₁_elim}
use Rattle.std.proofs.Props.{props}
use Rattle.fancy_tree.specs.declared.tree.Meaning.{Meaning}
use Rattle.fancy_bytes.specs.Firsts.{AreStartBytes}
use Rattle.fancy_prefilter.specs.Seen.{NoneMayStart}
use Rattle.fancy_code.proofs.TriedLemmas.{none_found, none_may_start, not_seeking}
use Rattle.fancy_meaning.specs.Tried.{tried, NoneTried}
use Rattle.fancy_bytes.specs.Items.{includes}
use Rattle.fancy_bytes.specs.Lacks.{includes_all}
use Rattle.fancy_search.specs.Options.{meaning_in}
use Rattle.fancy_bytes.specs.Required.{required_bytes}
use Rattle.fancy_bytes.proofs.BoolLemmas.{some_found, parts_of, and_never}
use Rattle.fancy_bytes.proofs.LackLemmas.{stands_included, lacks_one}
use Rattle.fancy_meaning.proofs.SkipLemmas.{lacking_is_none}
use Rattle.fancy_meaning.specs.Events.{Event, returns_in}
use Rattle.fancy_input.specs.Requests.{positions}
use Rattle.fancy_tree.specs.declared.error.Error.{Error}
use Rattle.fancy_input.specs.declared.work.Work.{Work}
use Rattle.fancy_input.specs.Work.{steps_of}
use Rattle.fancy_search.specs.Cached.{IsFoundBy}
use Rattle.fancy_search.proofs.RefusalLemmas.{refuses_easy}
use Rattle.fancy_search.proofs.ResultLemmas.{if_ok, if_err}
use Rattle.fancy_search.specs.SearchCounts.{TriesNothing, RefusesEasy, lacks_required, is_hopeless, tried_by, returns_taken}
use Rattle.fancy_meaning.specs.Search.{Query, Answer, search, span_of, attempt, answer_at, is_match_boundary, gone_through, gone_from, returns}
use Rattle.fancy_code.specs.Queries.{answer_with}
use Rattle.fancy_code.specs.Code.{instrs_of}
use Rattle.fancy_code.specs.declared.code.Code.{Code}
use Rattle.fancy_states.specs.Futures.{EndsNoGroup}
use Rattle.fancy_states.specs.Search.{IsFoundAs, groups_of}
use Rattle.fancy_code.specs.declared.found.Found.{Found}
use Rattle.fancy_search.specs.declared.asked.Asked.{Asked}
use Rattle.fancy_search.specs.Served.{StandsIn, IsPosition, KeepsCounts, ServesAlone}
use Rattle.fancy_input.specs.declared.span.Span.{Span}
use Rattle.fancy_input.specs.declared.input.Request.{Request}
use Rattle.fancy_input.specs.Requests.{effective_start}
use Rattle.fancy_meaning.proofs.AttemptLemmas.{anchored_at}
use Rattle.fancy_code.proofs.PositionLemmas.{anchored_easy}
use Rattle.fancy_code.proofs.ClassifyLemmas.{easy_code}
use Rattle.fancy_search.specs.declared.program.Program.{Program}
use Rattle.fancy_search.specs.Programs.{program_options, program_pattern, program_is_easy, asked_of, query_in}
use Rattle.fancy_search.proofs.ProgramSizeLemmas.{parts_of_easy}
use Rattle.fancy_meaning.proofs.FoundLemmas.{answer_within, attempt_within}

-- an equation of answers has at most one proof, so that it may rest on a fact of which only the existence is known
pub known : {P : Type 0} (a b : Option Answer) → ∥ P ∥₁ → (P → a ≡ b) → a ≡ b
known a b t f = ∥∥₁_elim t (hlevel props) f

pub known_groups : {P : Type 0} (a b : List (Option Span)) → ∥ P ∥₁ → (P → a ≡ b) → a ≡ b
known_groups a b t f = ∥∥₁_elim t (hlevel props) f

pub known_tests : {P : Type 0} (a b : Bool) → ∥ P ∥₁ → (P → a ≡ b) → a ≡ b
known_tests a b t f = ∥∥₁_elim t (hlevel props) f

-- what answers a search, or an attempt at a position, stands within what was asked
module _ (r : Program) (asked : Asked) (groups : List (Option Span)) where
  pub found_stands : (m : Option Found) → answer_with groups m ≡ search (query_in r asked) → IfSome m (StandsIn r asked)
  found_stands None e = tt
  found_stands (Some f) e =
      let within = answer_within (query_in r asked) _ asked.inside (sym e) in
      record { ordered = (within.forward r.starts).to; inside = within.ends; cleanly = λ on. (within.accepted.keeps on, within.accepted.ends on) }

  pub attempt_stands : (p : ℕ) → p ≤ asked.request.now.range_end → (m : Option Found) → answer_with groups m ≡ attempt (query_in r asked) p → IfSome m (StandsIn r asked)
  attempt_stands p to None e = tt
  attempt_stands p to (Some f) e =
      let within = attempt_within (query_in r asked) p _ asked.inside to (sym e) in
      record { ordered = (within.forward r.starts).to; inside = within.ends; cleanly = λ on. (within.accepted.keeps on, within.accepted.ends on) }

abbrev no_events : List Event
no_events = []

either_empty : (b : Bool) → (if b then no_events else no_events) ≡ []
either_empty true = refl
either_empty false = refl

-- where a required byte is lacking, nothing is found
pub lacking_none : (q : Query) → lacks_required q ≡ true → search q ≡ None
lacking_none q e =
    let f = some_found 256 (λ b. required_bytes q.sought.meaning q.sought.pattern b && not (includes q.haystack b)) e in
    let told = parts_of (required_bytes q.sought.meaning q.sought.pattern f.0) (not (includes q.haystack f.0)) f.2 in
    lacking_is_none q f.0 told.0 (λ s. true≢false (sym told.1 ∙ ap not (stands_included q.haystack f.0 s.place s.there)))

-- what the look for the required bytes tells
pub lacking_as_told : (r : Program) (asked : Asked) → not (includes_all asked.haystack.now r.required) ≡ lacks_required (query_in r asked)
lacking_as_told r asked = lacks_one (required_bytes (meaning_in (program_options r)) (program_pattern r)) asked.haystack.now r.required r.needed

both_are : (a b : Bool) → a ≡ true → b ≡ true → (a && b) ≡ true
both_are true b e f = f
both_are false b e f = absurd (true≢false (sym e))

-- nor one whose required bytes stand
pub stands_all : (r : Program) (q : Query) → lacks_required q ≡ false → is_hopeless r q ≡ false
stands_all r q e = ap (λ (b : Bool). (program_options r).seek && b) e ∙ and_never (program_options r).seek

pub hopeless : (r : Program) (q : Query) → (program_options r).seek ≡ true → lacks_required q ≡ true → is_hopeless r q ≡ true
hopeless r q e f = both_are (program_options r).seek (lacks_required q) e f

denied : (b c : Bool) → (b ≡ true → c ≡ true) → c ≡ false → b ≡ false
denied true c to e = absurd (true≢false (sym (to refl) ∙ e))
denied false c to e = refl

-- a search that is not hopeless tries the positions where a match may begin
pub tried_all : (r : Program) (q : Query) → is_hopeless r q ≡ false → tried_by r q ≡ tried (program_options r).seek q
tried_all r q e = ap (λ (b : Bool). λ (p : ℕ). not b && tried (program_options r).seek q p) e

pub none_tried_in : (r : Program) (q : Query) → is_hopeless r q ≡ false → TriesNothing r q → NoneTried (program_options r).seek q
unfolding TriesNothing
none_tried_in r q e none p from to = ap (λ (b : Bool). not b && tried (program_options r).seek q p) (sym e) ∙ none p from to

-- and one that is tries none
pub tried_none : (r : Program) (q : Query) → is_hopeless r q ≡ true → tried_by r q ≡ (λ p. false)
tried_none r q e = ap (λ (b : Bool). λ (p : ℕ). not b && tried (program_options r).seek q p) e

gone_none : (q : Query) (n p : ℕ) → gone_from q (λ k. false) n p ≡ []
unfolding gone_from
gone_none q zero p = refl
gone_none q (suc n) p =
    ap₂ (λ (b : Bool) (es : List Event). (if b then gone_through q p else []) ++ (if is_some (answer_at q p) then [] else es))
    (and_never (is_match_boundary q.sought.on_boundaries q.haystack p)) (gone_none q n (p + 1))
    ∙ either_empty (is_some (answer_at q p))

pub no_returns : (r : Program) (q : Query) → is_hopeless r q ≡ true → returns_taken r q ≡ 0
no_returns r q e = ap (returns q) (tried_none r q e) ∙ ap returns_in (gone_none q (positions q.request) (effective_start q.request))

-- an answer of a search that tries no position is none
pub none_tried : (r : Program) (q : Query) (groups : List (Option Span)) → is_hopeless r q ≡ false → TriesNothing r q → (m : Option Found) → answer_with groups m ≡ search q → m ≡ None
none_tried r q groups hopeful none None e = refl
none_tried r q groups hopeful none (Some f) e = let no : Some _ ≡ None = e ∙ none_found (program_options r).seek q (none_tried_in r q hopeful none) in cc

-- where an easy program tries no position, no match may start at any
pub nowhere : (r : Program) (haystack : List ℕ) (request : Request) (on : Bool) (before after : ℕ) → ((k : ℕ) → slice_index haystack k < 256) → NoneTried (program_options r).seek (asked_of r haystack request on)
    → (NoneMayStart r.code.prefilter.starts haystack request.range_end (effective_start request) (request.range_end + 1) → after ≡ before) → after ≡ before
nowhere r haystack request on before after bytes none idle =
    ∥∥₁_elim r.compiled (hlevel props) (λ compiled.
    let q = asked_of r haystack request on in
    idle (none_may_start q bytes r.code.prefilter.starts (subst (λ (m : Meaning). AreStartBytes m q.sought.pattern r.code.prefilter.starts) r.meant compiled.coded.starts) (not_seeking (program_options r).seek q none)))

-- of an easy program the search that is anchored at a position is the attempt there
pub attempted : (r : Program) (asked : Asked) (p : ℕ) → program_is_easy r ≡ true → IsPosition asked.request.now p
    → search (asked_of r asked.haystack.now (anchored_at asked.request.now p) false) ≡ attempt (query_in r asked) p
attempted r asked p easy tries =
    let parts = parts_of_easy _ _ _ easy in
    known _ _ r.compiled
    (λ compiled. anchored_easy (query_in r asked) r.code compiled.coded refl (sym r.meant) parts.1 parts.2 asked.inside (easy_code _ (r.light parts.0)) p tries.to tries.from)

-- what was found is the answer without its groups
pub found_by : (q : Query) (groups : List (Option Span)) (m : Option Found) → answer_with groups m ≡ search q → IsFoundBy m q
found_by q groups None e = ap (option_map span_of) e
found_by q groups (Some f) e = ap (option_map span_of) e

-- where the code ends no group none takes part in what was found
pub found_ungrouped : (code : Code) (m : Option Found) (o : Option Answer) → EndsNoGroup (instrs_of code) → IsFoundAs code m o
    → answer_with (replicate code.groups None) m ≡ o
found_ungrouped code m o none is = subst (λ (groups : List (Option Span)). answer_with groups m ≡ o) (is.none none) is.same

-- and where they are not asked, they are those of the answer
pub found_unasked : (code : Code) (m : Option Found) (o : Option Answer) → IsFoundAs code m o → answer_with (groups_of 0 o) m ≡ o
found_unasked code None None is = refl
found_unasked code None (Some f) is = is.same
found_unasked code (Some m) None is = let none = is.same in cc
found_unasked code (Some m) (Some f) is = is.same

-- what serves a search for an easy pattern that is not hopeless serves one whose groups are not asked, whatever groups go with what it found
pub served_some : (r : Program) (asked : Asked) → program_is_easy r ≡ true → is_hopeless r (query_in r asked) ≡ false
    → (result : Result (Option Found) Error) (before after : Work)
    → IfOk result (λ m. (groups : List (Option Span)) × (answer_with groups m ≡ search (query_in r asked))) → KeepsCounts r result before after
    → (NoneTried (program_options r).seek (query_in r asked) → steps_of after ≡ steps_of before)
    → IfErr result (RefusesEasy r) → ServesAlone r asked result before after
served_some r asked easy hopeful result before after answer counts idle refused =
    let q = query_in r asked in
    record {
      answer = if_ok _ _ (λ m is. found_by q is.0 m is.1) result answer;
      stands = if_ok _ _ (λ m is. found_stands r asked is.0 m is.1) result answer;
      counts = counts;
      idle = λ none. idle (none_tried_in r q hopeful none);
      none = λ none. if_ok _ _ (λ m is. none_tried r q is.0 hopeful none m is.1) result answer;
      hard = λ hard. absurd (true≢false (sym easy ∙ hard));
      refused = if_err _ _ (refuses_easy r q) result refused;
      allowed = if_ok _ _ (λ _ _ hard. absurd (true≢false (sym easy ∙ hard))) result answer;
    }

-- the same with these groups
pub served_easily : (r : Program) (asked : Asked) (groups : List (Option Span)) → program_is_easy r ≡ true → is_hopeless r (query_in r asked) ≡ false
    → (result : Result (Option Found) Error) (before after : Work)
    → IfOk result (λ m. answer_with groups m ≡ search (query_in r asked)) → KeepsCounts r result before after
    → (NoneTried (program_options r).seek (query_in r asked) → steps_of after ≡ steps_of before)
    → IfErr result (RefusesEasy r) → ServesAlone r asked result before after
served_easily r asked groups easy hopeful result before after answer counts idle refused =
    served_some r asked easy hopeful result before after (if_ok _ _ (λ m is. (groups, is)) result answer) counts idle refused
