use Rattle.std.proofs.Common.{◌≡◌, ◌+◌, ◌<◌, Some, refl, ap, ◌∙◌, length, arith}
use Rattle.std.specs.Box.{with_value}
use Rattle.fancy_core.specs.Regexes.{program_in}
use Rattle.fancy_search.specs.Cached.{cached_groups}
use Rattle.fancy_search.specs.KeptTables.{KeepsNotes, kept_from}
use Rattle.fancy_search.proofs.KeptTablesLemmas.{noted_past}
use Rattle.fancy_search.proofs.SearchedLemmas.{attempt_stands}
use Rattle.fancy_search.proofs.ResultLemmas.{if_ok, if_ok_both}
use Rattle.fancy_regex.specs.SetMembers.{asked_alone}
use Rattle.fancy_regex.proofs.TrialLemmas.{noted_still, noted_now, stay_but, get_set_same}
use Rattle.fancy_regex.proofs.SetCountLemmas.{left_alone, left_stays, none_again_after, none_both, none_kept, none_with}
use Rattle.fancy_regex.specs.SetCounts.{steps_left}
use Rattle.fancy_regex.specs.Trials.{notes_at, notes_held}
use Rattle.fancy_search.specs.declared.cache.AttemptCache.{AttemptCache}
use Rattle.fancy_regex.specs.declared.set.trials.Trials.{Trials}
use Rattle.fancy_regex.proofs.set.trials.Trials.find_at.Goals as goal
use Rattle.fancy_regex.proofs.set.trials.Trials.find_at.Goals.{then-is_new+in_default, else-is_new}

pub returns-then-not-is_easy-clause-notes : goal.returns-then-not-is_easy-clause-notes
returns-then-not-is_easy-clause-notes c =
    if_ok _ _ (λ m found notes at. noted_past (program_in c.args.member.now) c.args.asked.now c.args.position notes m
    (attempt_stands (program_in c.args.member.now) c.args.asked.now (cached_groups c.find_hard.new.cache.engines) c.args.position c.requires.ends m found)
    (c.requires.notes notes at)) c.find_hard.result c.find_hard.ensures.found

pub returns-in-Some-clause-spent : goal.returns-in-Some-clause-spent
returns-in-Some-clause-spent c easy =
    none_with _ (omega (arith, left_alone c.args.member.now c.args.asked.now.request.now c.args.position (notes_at c.args.self.now c.args.index) (c.if-is_new.ensures refl) c.requires.ends, c.in-Some.ensures.bounded)) c.in-Some.found

pub find_at-found-requires-clause-notes : goal.find_at-found-requires-clause-notes
find_at-found-requires-clause-notes c =
    let stayed : c.if-is_new.self ≡ c.args.self.now =
    elim c.if-is_new.branch [
      | then-is_new+in_default w ↦ w.self-is ∙ ap (λ (k : AttemptCache). record c.args.self.now { cache = k }) w.in_default.ensures.none
      | else-is_new w ↦ w.self-is
    ] in
    let q = asked_alone c.args.member.now c.args.asked.now.haystack.now c.args.asked.now.request.now in
    rw c.deref_mut.ensures.value
    (noted_still q c.args.member.now c.args.position c.args.index c.args.self.now c.in_ok-notes.notes.value (rw stayed at c.in_ok-notes.ensures.given) c.requires.notes)

pub returns-clause-notes : goal.returns-clause-notes
returns-clause-notes c =
    if_ok _ _ (λ m. noted_now c.args.member.now c.args.asked.now.haystack.now c.args.asked.now.request.now (kept_from m c.args.position) c.args.index c.take_notes.new.self.notes.items (with_value c.in_ok-notes.notes c.find_at-found.new.notes)
    (omega (arith, c.in_ok-notes.ensures.reached, c.take_notes.new.self.notes.ok.0))) c.find_at-found.result c.find_at-found.ensures.notes

pub returns-clause-others : goal.returns-clause-others
returns-clause-others c =
    let stayed : c.if-is_new.self ≡ c.args.self.now =
    elim c.if-is_new.branch [
      | then-is_new+in_default w ↦ w.self-is ∙ ap (λ (k : AttemptCache). record c.args.self.now { cache = k }) w.in_default.ensures.none
      | else-is_new w ↦ w.self-is
    ] in
    stay_but c.args.index c.args.self.now c.take_notes.new.self (Some (with_value c.in_ok-notes.notes c.find_at-found.new.notes)) (rw stayed at c.take_notes.ensures.others)

pub returns-clause-bounded : goal.returns-clause-bounded
returns-clause-bounded c easy =
    let stayed : c.if-is_new.self ≡ c.args.self.now =
    elim c.if-is_new.branch [
      | then-is_new+in_default w ↦ w.self-is ∙ ap (λ (k : AttemptCache). record c.args.self.now { cache = k }) w.in_default.ensures.none
      | else-is_new w ↦ w.self-is
    ] in
    let stays = left_stays c.args.member.now c.args.asked.now.request.now c.args.position (notes_at c.args.self.now c.args.index) (Some c.in_ok-notes.notes.value) (rw stayed at c.in_ok-notes.ensures.given) in
    let bounded = rw c.deref_mut.ensures.value at (c.find_at-found.ensures.bounded easy) in
    let same = ap (λ (k : AttemptCache). k.work.steps) (c.take_notes.ensures.cache ∙ ap (λ (t : Trials). t.cache) stayed) in
    omega (arith, stays, bounded, same)

pub returns-clause-spent : goal.returns-clause-spent
returns-clause-spent c easy =
    let stayed : c.if-is_new.self ≡ c.args.self.now =
    elim c.if-is_new.branch [
      | then-is_new+in_default w ↦ w.self-is ∙ ap (λ (k : AttemptCache). record c.args.self.now { cache = k }) w.in_default.ensures.none
      | else-is_new w ↦ w.self-is
    ] in
    let within : c.args.index < length c.take_notes.new.self.notes.items = omega (arith, c.in_ok-notes.ensures.reached, c.take_notes.new.self.notes.ok.0) in
    let stays = left_stays c.args.member.now c.args.asked.now.request.now c.args.position (notes_at c.args.self.now c.args.index) (Some c.in_ok-notes.notes.value) (rw stayed at c.in_ok-notes.ensures.given) in
    let after = ap (λ held. steps_left c.args.member.now c.args.asked.now.request.now (c.args.position + 1) (notes_held held)) (get_set_same c.take_notes.new.self.notes.items c.args.index (Some (with_value c.in_ok-notes.notes c.find_at-found.new.notes)) within) in
    let kept = if_ok _ _ (none_kept (λ p. KeepsNotes (program_in c.args.member.now) c.args.asked.now.haystack.now c.args.asked.now.request.now p c.find_at-found.new.notes) c.args.position) c.find_at-found.result c.find_at-found.ensures.notes in
    let same = ap (λ (k : AttemptCache). k.work.steps) (c.take_notes.ensures.cache ∙ ap (λ (t : Trials). t.cache) stayed) in
    if_ok_both _ _ _
    (λ m noted spent. none_both _ _ _
    (λ kept less. omega (arith, stays, after, less, none_again_after (program_in c.args.member.now) c.args.asked.now.haystack.now c.args.asked.now.request.now c.args.position c.find_at-found.new.notes kept, same))
    m noted spent)
    c.find_at-found.result kept (rw c.deref_mut.ensures.value at (c.find_at-found.ensures.spent easy))
