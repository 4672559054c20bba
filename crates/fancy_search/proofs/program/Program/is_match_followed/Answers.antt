use Rattle.std.proofs.Common.{◌≡◌, ◌∙◌, ap, refl, subst, sym}
use Rattle.std.specs.Prelude.{is_some}
use Rattle.fancy_meaning.specs.Search.{search}
use Rattle.fancy_states.specs.Cells.{IsFor}
use Rattle.fancy_states.proofs.RememberedLemmas.{remembers, recalls}
use Rattle.fancy_search.specs.Programs.{asked_of}
use Rattle.fancy_search.specs.StepsOf.{AreStepsOf}
use Rattle.fancy_search.proofs.LaterLemmas.{tells_none, tells_some}
use Rattle.fancy_search.proofs.program.Program.is_match_followed.Goals as goal
use Rattle.fancy_search.proofs.program.Program.is_match_followed.Goals.{in-Some-Left, in-None}

pub is_match_opened-requires-clause-all : goal.is_match_opened-requires-clause-all
is_match_opened-requires-clause-all c =
    let kept : AreStepsOf c.args.self.now.code c.deref_mut.result.now = rw c.deref_mut.ensures.value c.in_ok-steps.ensures in
    let cells = c.deref_mut.result.now.cells in
    subst (IsFor cells) (sym c.in-Some.ensures.asked.asked.of_code) (recalls cells c.args.self.now.code kept.true_of)

pub leave-requires : goal.leave-requires
leave-requires c =
    let cells = c.is_match_opened.new.cells in
    let all : IsFor cells c.args.self.now.code = subst (IsFor cells) c.in-Some.ensures.asked.asked.of_code c.is_match_opened.ensures.all in
    (c.args.self.now.pooled _).1 (record { true_of = remembers cells c.args.self.now.code all; within = c.is_match_opened.ensures.kept })

pub returns-in_default-clause-answer : goal.returns-in_default-clause-answer
returns-in_default-clause-answer c on =
    let r = c.args.self.now in
    let rest = c.match-branch-2.request in
    let same : search (asked_of r c.args.haystack.now rest on) ≡ search (asked_of r c.args.haystack.now c.args.request on) =
    elim c.match-branch-2.branch [
      | in-Some-Left w ↦ rw w.request-is (rw w.in-Some-Left.field-0-is ((rw w.in-Some-Left.field-0-is at (rw w.in-Some-Left.is at c.in_ok-found.ensures.begun).1).same on on))
      | in-None w ↦ rw w.request-is refl
    ] in
    let none = tells_none r c.args.haystack.now rest on c.for_search-options.result c.requires.followable.easy c.for_search-options.ensures (λ p is. c.in_default.ensures.none p on is) in
    ap is_some (sym none ∙ same)

pub returns-clause-answer : goal.returns-clause-answer
returns-clause-answer c on =
    let r = c.args.self.now in
    let rest = c.match-branch-2.request in
    let same : search (asked_of r c.args.haystack.now rest on) ≡ search (asked_of r c.args.haystack.now c.args.request on) =
    elim c.match-branch-2.branch [
      | in-Some-Left w ↦ rw w.request-is (rw w.in-Some-Left.field-0-is ((rw w.in-Some-Left.field-0-is at (rw w.in-Some-Left.is at c.in_ok-found.ensures.begun).1).same on on))
      | in-None w ↦ rw w.request-is refl
    ] in
    tells_some r c.args.haystack.now rest on c.in-Ok.found _ c.requires.followable.easy c.for_search-options.ensures
    (λ p is. c.in-Ok.ensures.answer r.code c.args.haystack.now rest c.for_search-options.result c.in-Some.ensures.asked p on is)
    ∙ ap is_some same
