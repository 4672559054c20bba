use Rattle.std.proofs.Common.{◌≡◌, ◌∙◌, ◌<◌, ◌≤◌, ◌+◌, ◌*◌, ℕ, length, take, drop, vec_items, refl, sym, ap, subst, arith, inl, inr}
use Rattle.fancy_regex_c.specs.NextMatches.{width_by, IsRow, MovesMatchList}
use Rattle.fancy_regex_c.proofs.MatchListLemmas.{row_inside, moves_match, ends_matches, keeps_matches}
use Rattle.fancy_regex_c.proofs.under_way.MatchList.next.Goals as goal

pub returns-then-answer-ne-DONE : goal.returns-then-answer-ne-DONE
returns-then-answer-ne-DONE c = λ regex bytes r is.
    let e = c.make_ready-answer.ensures in
    let four : c.make_ready-answer.result ≡ 4 = elim e.answer [ inl done ↦ absurd (c.if-answer-ne-DONE.true done) | inr four ↦ four ] in
    subst (λ (n : ℕ). MovesMatchList regex bytes r c.args.self.now c.make_ready-answer.new.self c.args.groups.now c.args.groups.now n) (sym four)
    (keeps_matches regex bytes r c.args.self.now c.make_ready-answer.new.self c.args.groups.now is (e.wants four) (e.same four))

pub returns-in-Some : goal.returns-in-Some
returns-in-Some c = λ regex bytes r is.
    let l = c.args.self.now in
    let d = c.make_ready-answer.new.self in
    let w = width_by d.has_groups d.regex.value in
    let readies = c.make_ready-answer.ensures.ready c.if-answer-ne-DONE.false in
    let taken = c.in-Some.ensures.taken in
    let same = c.in-Some.ensures.same in
    let here = taken.0 in
    let inside = taken.1 in
    let some : d.progress.given < d.progress.ready = omega (arith, here, inside) in
    let given : c.take.new.self.given ≡ d.progress.given + 1 = taken.2 ∙ ap (λ (n : ℕ). n + 1) here in
    let writes = subst (λ (k : ℕ). (k + 1) * w ≤ length (vec_items d.spans) → IsRow c.put.new.groups (take w (drop (k * w) (vec_items d.spans)))) here c.put.ensures in
    moves_match regex bytes r l d is readies c.take.new.self c.args.groups.now c.put.new.groups same.0 same.1 some given same.2
    (writes (row_inside regex bytes r l d is readies c.take.new.self c.args.groups.now c.put.new.groups same.0 same.1 some))

pub returns-in-None : goal.returns-in-None
returns-in-None c = λ regex bytes r is.
    let l = c.args.self.now in
    let d = c.make_ready-answer.new.self in
    let p = c.end.new.self in
    let readies = c.make_ready-answer.ensures.ready c.if-answer-ne-DONE.false in
    let taken = c.in-None.ensures.taken in
    let same = c.in-None.ensures.same in
    let ended = c.end.ensures in
    let answer : c.end.result ≡ d.progress.last = ended.told ∙ same.2 in
    subst (λ (n : ℕ). MovesMatchList regex bytes r l (record d { progress = p }) c.args.groups.now c.args.groups.now n) (sym answer)
    (ends_matches regex bytes r l d is readies p c.args.groups.now c.args.groups.now (ended.same.0 ∙ same.0) (ended.same.2 ∙ same.1) taken.0 (ended.same.1 ∙ taken.1) ended.ended refl)
