use Rattle.std.proofs.Common.{◌≡◌, ℕ, ◌∙◌, Bool, true, false, replicate, sym, ap, arith}
use Rattle.fancy_meaning.specs.Events.{returns_in}
use Rattle.fancy_meaning.specs.Search.{Query, answer_at, attempt}
use Rattle.fancy_code.specs.Queries.{answer_with}
use Rattle.fancy_code.specs.Thread.{empty_slot}
use Rattle.fancy_machine.specs.declared.search.Cache.{Cache}
use Rattle.fancy_machine.specs.Asked.{found_if, groups_held}
use Rattle.fancy_trail.specs.Best.{state_if_found}
use Rattle.fancy_trail.specs.Layers.{spot_of}
use Rattle.fancy_machine.proofs.MachineSearch.{admits, admits_is, begun_from, nothing_admitted, nothing_here, taken_here, missed_here}
use Rattle.fancy_machine.proofs.AnswerLemmas.{keeps_none, limits_none, answers_ok, answers_by}
use Rattle.fancy_machine.proofs.search.finds_at.Goals as goal

-- where the trail stands at the outcome that is taken, or none is taken, that is what the attempt finds
found_at : (q : Query) (p : ℕ) (cache : Cache) (found : Bool) → state_if_found found cache.trail.now ≡ answer_at q p → answer_with (groups_held cache) (found_if p cache found) ≡ attempt q p
found_at q p cache true e = sym (taken_here q p _ (sym e))
found_at q p cache false e = sym (missed_here q p (sym e))

pub returns-then-not-is_match_boundary-clause-answers : goal.returns-then-not-is_match_boundary-clause-answers
returns-then-not-is_match_boundary-clause-answers g c =
    let may : admits g.q c.args.position ≡ false = sym (admits_is g.q c.args.attempts.now c.requires.0.serves c.args.position) ∙ sym c.if-not-is_match_boundary.ensures in
    answers_ok (sym (missed_here g.q c.args.position (nothing_admitted g.q c.args.position may))) (omega (arith, ap returns_in (nothing_here g.q c.args.position may))) (omega arith) keeps_none (limits_none c.requires.1.room)

pub run-requires : goal.run-requires
run-requires g c =
    let may : admits g.q c.args.position ≡ true = sym (admits_is g.q c.args.attempts.now c.requires.0.serves c.args.position) ∙ sym c.if-not-is_match_boundary.ensures in
    let k = begun_from g.q c.args.attempts.now c.requires.0.coded c.requires.0.groups c.requires.0.inside c.requires.0.serves c.args.position may c.begin.new.self.now
    (c.in_ok-begin.ensures.begun ∙ ap (λ (r : ℕ). spot_of c.args.attempts.now.code.now.start r c.args.position c.args.position (replicate c.args.attempts.now.code.now.groups empty_slot)) c.requires.0.range) c.requires.0.ends in
    (k.known, (c.begin.ensures.frames, (c.begin.ensures.most, c.requires.1)))

pub returns-clause-answers : goal.returns-clause-answers
returns-clause-answers g c =
    let may : admits g.q c.args.position ≡ true = sym (admits_is g.q c.args.attempts.now c.requires.0.serves c.args.position) ∙ sym c.if-not-is_match_boundary.ensures in
    let k = begun_from g.q c.args.attempts.now c.requires.0.coded c.requires.0.groups c.requires.0.inside c.requires.0.serves c.args.position may c.begin.new.self.now
    (c.in_ok-begin.ensures.begun ∙ ap (λ (r : ℕ). spot_of c.args.attempts.now.code.now.start r c.args.position c.args.position (replicate c.args.attempts.now.code.now.groups empty_slot)) c.requires.0.range) c.requires.0.ends in
    answers_by c.args.position c.run.result
    (λ found is.
    let answer = rw is at c.run.ensures.answer in
    let count = rw is at c.run.ensures.count in
    (found_at g.q c.args.position (record { trail = c.run.new.trail; best = c.run.new.best; seen = c.run.new.seen }) found (answer ∙ k.answer), omega (arith, count, k.returns)))
    (omega (arith, c.run.ensures.bounded, k.returns))
    (λ is. let lt = c.run.ensures.refused is in omega (arith, lt, k.returns)) (λ is. let lt = c.run.ensures.crowded is in omega (arith, lt, c.begin.ensures.most, k.marks))
    (omega (arith, c.run.ensures.most)) c.run.ensures.counts c.run.ensures.heeds
