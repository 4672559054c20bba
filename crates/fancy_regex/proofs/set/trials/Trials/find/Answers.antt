use Rattle.std.proofs.Common.{◌∙◌, Some, sym, ap, subst, arith, true≢false}
use Rattle.std.specs.Box.{with_value}
use Rattle.fancy_input.specs.Work.{IsWithin, work_of}
use Rattle.fancy_core.specs.Regexes.{program_in, step_limit_in}
use Rattle.fancy_search.specs.declared.cache.AttemptCache.{AttemptCache}
use Rattle.fancy_search.specs.Cached.{cached_groups}
use Rattle.fancy_search.specs.KeptTables.{kept_from}
use Rattle.fancy_search.proofs.KeptTablesLemmas.{noted_past}
use Rattle.fancy_search.proofs.ResultLemmas.{if_ok}
use Rattle.fancy_search.proofs.SearchedLemmas.{attempt_stands}
use Rattle.fancy_regex.specs.SetMembers.{asked_alone}
use Rattle.fancy_regex.proofs.TrialLemmas.{noted_still, noted_now, stay_but}
use Rattle.fancy_regex.proofs.set.trials.Trials.find.Goals as goal

pub returns-in-Some-clause-notes : goal.returns-in-Some-clause-notes
returns-in-Some-clause-notes c notes at =
    noted_past (program_in c.args.member.now) c.args.asked.now c.args.position notes c.in-Some.found
    (attempt_stands (program_in c.args.member.now) c.args.asked.now (cached_groups c.find_straight-straight.new.cache.engines) c.args.position c.requires.ends c.in-Some.found c.in-Some.ensures.found)
    (c.requires.notes notes at)

pub returns-in-Some-clause-allowed : goal.returns-in-Some-clause-allowed
returns-in-Some-clause-allowed c hard = absurd (true≢false (sym c.in-Some.ensures.easy ∙ hard))

pub find_in_list-found-requires-clause-notes : goal.find_in_list-found-requires-clause-notes
find_in_list-found-requires-clause-notes c =
    let q = asked_alone c.args.member.now c.args.asked.now.haystack.now c.args.asked.now.request.now in
    rw c.deref_mut.ensures.value
    (noted_still q c.args.member.now c.args.position c.args.index c.args.self.now c.in_ok-notes.notes.value c.in_ok-notes.ensures.given c.requires.notes)

pub returns-clause-notes : goal.returns-clause-notes
returns-clause-notes c =
    if_ok _ _ (λ m. noted_now c.args.member.now c.args.asked.now.haystack.now c.args.asked.now.request.now (kept_from m c.args.position) c.args.index c.take_notes.new.self.notes.items (with_value c.in_ok-notes.notes c.find_in_list-found.new.notes)
    (omega (arith, c.in_ok-notes.ensures.reached, c.take_notes.new.self.notes.ok.0))) c.find_in_list-found.result c.find_in_list-found.ensures.notes

pub returns-clause-others : goal.returns-clause-others
returns-clause-others c = stay_but c.args.index c.args.self.now c.take_notes.new.self (Some (with_value c.in_ok-notes.notes c.find_in_list-found.new.notes)) c.take_notes.ensures.others

pub returns-clause-limit : goal.returns-clause-limit
returns-clause-limit c within =
    c.find_in_list-found.ensures.limit (subst (λ (k : AttemptCache). IsWithin (step_limit_in c.args.member.now) k.work) (sym c.take_notes.ensures.cache)
    (subst (λ (k : AttemptCache). IsWithin (step_limit_in c.args.member.now) k.work) (sym c.in_default.ensures.none) within))

pub returns-in_err-notes-clause-limit : goal.returns-in_err-notes-clause-limit
returns-in_err-notes-clause-limit c within =
    subst (λ (k : AttemptCache). IsWithin (step_limit_in c.args.member.now) k.work) (sym c.take_notes.ensures.cache)
    (subst (λ (k : AttemptCache). IsWithin (step_limit_in c.args.member.now) k.work) (sym c.in_default.ensures.none) within)

pub returns-clause-grows : goal.returns-clause-grows
returns-clause-grows c =
    omega (arith, ap (λ k. work_of k.work) c.take_notes.ensures.cache, ap (λ (k : AttemptCache). work_of k.work) c.in_default.ensures.none, c.find_in_list-found.ensures.grows)

pub returns-in_err-notes-clause-grows : goal.returns-in_err-notes-clause-grows
returns-in_err-notes-clause-grows c = omega (arith, ap (λ k. work_of k.work) c.take_notes.ensures.cache, ap (λ (k : AttemptCache). work_of k.work) c.in_default.ensures.none)

pub returns-in-Some-told-clause-notes : goal.returns-in-Some-told-clause-notes
returns-in-Some-told-clause-notes c notes at =
    noted_past (program_in c.args.member.now) c.args.asked.now c.args.position notes c.in-Some-told.found
    (attempt_stands (program_in c.args.member.now) c.args.asked.now (cached_groups c.told-told.new.cache) c.args.position c.requires.ends c.in-Some-told.found c.in-Some-told.ensures.found)
    (c.requires.notes notes at)

pub returns-in-Some-told-clause-allowed : goal.returns-in-Some-told-clause-allowed
returns-in-Some-told-clause-allowed c hard = absurd (true≢false (sym c.in-Some-told.ensures.easy ∙ hard))

pub returns-then-not-is_easy-clause-notes : goal.returns-then-not-is_easy-clause-notes
returns-then-not-is_easy-clause-notes c =
    if_ok _ _ (λ m found notes at. noted_past (program_in c.args.member.now) c.args.asked.now c.args.position notes m
    (attempt_stands (program_in c.args.member.now) c.args.asked.now (cached_groups c.find_hard.new.cache.engines) c.args.position c.requires.ends m found)
    (c.requires.notes notes at)) c.find_hard.result c.find_hard.ensures.found
