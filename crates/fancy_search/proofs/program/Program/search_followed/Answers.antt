use Rattle.std.proofs.Common.{◌≡◌, ◌∙◌, Bool, Option, ap, refl, subst, sym}
use Rattle.fancy_input.specs.Work.{steps_of}
use Rattle.fancy_meaning.specs.Search.{Answer, search}
use Rattle.fancy_code.specs.Queries.{answer_with}
use Rattle.fancy_search.specs.Cached.{groups_or}
use Rattle.fancy_states.specs.Search.{IsFoundAs, groups_of}
use Rattle.fancy_search.specs.KeptTables.{HoldsSteps}
use Rattle.fancy_search.specs.Programs.{asked_of}
use Rattle.fancy_search.proofs.ResultLemmas.{if_ok}
use Rattle.fancy_search.proofs.program.Program.search_followed.Goals as goal
use Rattle.fancy_search.proofs.program.Program.search_followed.Goals.{in-Some+in_ok-found+in-Left, in_default}

pub steps_for-requires : goal.steps_for-requires
steps_for-requires c = record {
  kept = λ steps x e.
      let holds = elim c.match-patience.branch as (λ _. HoldsSteps c.args.self.now c.match-patience.cache.steps) [
        | in-Some+in_ok-found+in-Left w ↦ rw w.cache-is (c.requires.kept steps)
        | in_default w ↦ rw w.cache-is (c.requires.kept steps)
      ] in holds x (sym c.take.ensures.value ∙ e);
}

pub search_led-requires-clause-unanchored : goal.search_led-requires-clause-unanchored
search_led-requires-clause-unanchored c =
    elim c.match-patience.branch [
      | in-Some+in_ok-found+in-Left w ↦ rw w.request-is ((rw w.in-Left.is at w.in_ok-found.ensures.begun).free ∙ c.requires.unanchored)
      | in_default w ↦ rw w.request-is c.requires.unanchored
    ]

pub search_led-requires-clause-kept : goal.search_led-requires-clause-kept
search_led-requires-clause-kept c steps =
    elim c.match-patience.branch as (λ _. HoldsSteps c.args.self.now c.match-patience.cache.steps) [
      | in-Some+in_ok-found+in-Left w ↦ rw w.cache-is (c.requires.kept steps)
      | in_default w ↦ rw w.cache-is (c.requires.kept steps)
    ]

pub returns-then-is_led-clause-answer : goal.returns-then-is_led-clause-answer
returns-then-is_led-clause-answer c =
    let same : (on : Bool) → search (asked_of c.args.self.now c.args.asked.now.haystack.now c.match-patience.request on) ≡ search (asked_of c.args.self.now c.args.asked.now.haystack.now c.args.asked.now.request.now on) = λ on.
    elim c.match-patience.branch [
      | in-Some+in_ok-found+in-Left w ↦ rw w.request-is ((rw w.in-Left.is at w.in_ok-found.ensures.begun).same on on)
      | in_default w ↦ rw w.request-is refl
    ] in
    if_ok _ _ (λ m is on. subst (λ (o : Option Answer). answer_with (groups_or c.search_led.new.cache (groups_of 0 o)) m ≡ o) (same on) (is on)) c.search_led.result c.search_led.ensures.answer

pub returns-then-is_led-clause-idle : goal.returns-then-is_led-clause-idle
returns-then-is_led-clause-idle c on none =
    elim c.match-patience.branch [
      | in-Some+in_ok-found+in-Left w ↦ absurd ((rw w.in-Left.is at w.in_ok-found.ensures.begun).tried on none)
      | in_default w ↦ c.search_led.ensures.idle on (rw w.request-is none) ∙ ap steps_of w.work-is
    ]

pub returns-clause-answer : goal.returns-clause-answer
returns-clause-answer c =
    let same : (on : Bool) → search (asked_of c.args.self.now c.args.asked.now.haystack.now c.match-patience.request on) ≡ search (asked_of c.args.self.now c.args.asked.now.haystack.now c.args.asked.now.request.now on) = λ on.
    elim c.match-patience.branch [
      | in-Some+in_ok-found+in-Left w ↦ rw w.request-is ((rw w.in-Left.is at w.in_ok-found.ensures.begun).same on on)
      | in_default w ↦ rw w.request-is refl
    ] in
    if_ok _ _ (λ m is on. c.without_groups-cache.ensures.answer m _ _ _ (subst (IsFoundAs c.args.self.now.code m) (same on) (is on))) c.follow-found.result c.follow-found.ensures.answer

pub returns-clause-idle : goal.returns-clause-idle
returns-clause-idle c on none =
    elim c.match-patience.branch [
      | in-Some+in_ok-found+in-Left w ↦ absurd ((rw w.in-Left.is at w.in_ok-found.ensures.begun).tried on none)
      | in_default w ↦ c.follow-found.ensures.idle on (rw w.request-is none) ∙ ap steps_of w.work-is
    ]

pub returns-in_err-steps-clause-idle : goal.returns-in_err-steps-clause-idle
returns-in_err-steps-clause-idle c on none =
    elim c.match-patience.branch [
      | in-Some+in_ok-found+in-Left w ↦ absurd ((rw w.in-Left.is at w.in_ok-found.ensures.begun).tried on none)
      | in_default w ↦ ap steps_of w.work-is
    ]
