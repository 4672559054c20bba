use Rattle.std.proofs.Common.{◌≡◌, ◌∙◌, [], arith, refl, subst, sym}
use Rattle.fancy_meaning.specs.Search.{search}
use Rattle.fancy_states.specs.Cells.{IsFor}
use Rattle.fancy_states.specs.Search.{groups_of}
use Rattle.fancy_states.proofs.RememberedLemmas.{remembers, recalls}
use Rattle.fancy_search.specs.Programs.{asked_of, program_groups}
use Rattle.fancy_search.specs.StepsOf.{AreStepsOf}
use Rattle.fancy_search.proofs.LaterLemmas.{tells_found, tells_none}
use Rattle.fancy_search.proofs.SearchedLemmas.{nowhere}
use Rattle.fancy_search.proofs.program.Program.find_followed.Goals as goal
use Rattle.fancy_search.proofs.program.Program.find_followed.Goals.{in-Some-Left, in-None}

pub returns-in-Some-Ended-clause-answer : goal.returns-in-Some-Ended-clause-answer
returns-in-Some-Ended-clause-answer c on =
    let begun = rw c.in-Some-Ended.is at c.in_ok-found.ensures.begun in
    (begun.0, rw c.in-Some-Ended.field-0-is ((rw c.in-Some-Ended.field-0-is at begun.1) on))

pub find_opened-requires-clause-all : goal.find_opened-requires-clause-all
find_opened-requires-clause-all c =
    let kept : AreStepsOf c.args.self.now.code c.deref_mut.result.now = rw c.deref_mut.ensures.value c.in_ok-steps.ensures in
    let cells = c.deref_mut.result.now.cells in
    subst (IsFor cells) (sym c.in-Some.ensures.asked.asked.of_code) (recalls cells c.args.self.now.code kept.true_of)

pub leave-requires : goal.leave-requires
leave-requires c =
    let cells = c.find_opened.new.cells in
    let all : IsFor cells c.args.self.now.code = subst (IsFor cells) c.in-Some.ensures.asked.asked.of_code c.find_opened.ensures.all in
    (c.args.self.now.pooled _).1 (record { true_of = remembers cells c.args.self.now.code all; within = c.find_opened.ensures.kept })

pub returns-in_default-clause-answer : goal.returns-in_default-clause-answer
returns-in_default-clause-answer c on =
    let r = c.args.self.now in
    let rest = c.match-branch-2.request in
    let same : search (asked_of r c.args.haystack.now rest on) ≡ search (asked_of r c.args.haystack.now c.args.request on) =
    elim c.match-branch-2.branch [
      | in-Some-Left w ↦ rw w.request-is (rw w.in-Some-Left.field-0-is ((rw w.in-Some-Left.field-0-is at (rw w.in-Some-Left.is at c.in_ok-found.ensures.begun).1).same on on))
      | in-None w ↦ rw w.request-is refl
    ] in
    let none = tells_none r c.args.haystack.now rest on c.for_search-options.result c.requires.followable.easy c.for_search-options.ensures (λ p is. c.in_default.ensures.none p on is) in
    ([], sym none ∙ same)

pub returns-clause-answer : goal.returns-clause-answer
returns-clause-answer c on =
    let r = c.args.self.now in
    let rest = c.match-branch-2.request in
    let same : search (asked_of r c.args.haystack.now rest on) ≡ search (asked_of r c.args.haystack.now c.args.request on) =
    elim c.match-branch-2.branch [
      | in-Some-Left w ↦ rw w.request-is (rw w.in-Some-Left.field-0-is ((rw w.in-Some-Left.field-0-is at (rw w.in-Some-Left.is at c.in_ok-found.ensures.begun).1).same on on))
      | in-None w ↦ rw w.request-is refl
    ] in
    let found = tells_found r c.args.haystack.now rest on c.in-Ok.found c.for_search-options.result c.requires.followable.easy c.for_search-options.ensures
    (λ p is. c.in-Ok.ensures.answer r.code c.args.haystack.now rest c.for_search-options.result c.in-Some.ensures.asked p on is) in
    (groups_of (program_groups r) (search (asked_of r c.args.haystack.now rest on)), found ∙ same)

pub returns-in_default-find_opened-clause-idle : goal.returns-in_default-find_opened-clause-idle
returns-in_default-find_opened-clause-idle c on none =
    elim c.match-branch-2.branch [
      | in-Some-Left w ↦ absurd ((rw w.in-Some-Left.field-0-is at (rw w.in-Some-Left.is at c.in_ok-found.ensures.begun).1).tried on none)
      | in-None w ↦ nowhere c.args.self.now c.args.haystack.now c.args.request on _ _ (λ k. omega (arith, c.type_inv.haystack k)) none
          (λ never. absurd ((rw w.request-is at c.in-Some.ensures.begins) never))
    ]

pub returns-clause-idle : goal.returns-clause-idle
returns-clause-idle c on none =
    elim c.match-branch-2.branch [
      | in-Some-Left w ↦ absurd ((rw w.in-Some-Left.field-0-is at (rw w.in-Some-Left.is at c.in_ok-found.ensures.begun).1).tried on none)
      | in-None w ↦ nowhere c.args.self.now c.args.haystack.now c.args.request on _ _ (λ k. omega (arith, c.type_inv.haystack k)) none
          (λ never. absurd ((rw w.request-is at c.in-Some.ensures.begins) never))
    ]
