use Rattle.std.proofs.Common.{◌≡◌, ◌∙◌, ◌++◌, ◌∷◌, [], List, Option, ap, ap₂, length, map, subst, sym}
use Rattle.std.specs.Prelude.{ℕ}
use Rattle.fancy_states.specs.declared.way.Way.{Way}
use Rattle.fancy_states.specs.Joins.{Thinned, all_from, match_from}
use Rattle.fancy_states.specs.Steps.{IsStep, at_of}
use Rattle.fancy_states.proofs.JoinLemmas.{step_hidden, step_joined, thin_none}
use Rattle.fancy_states.proofs.join.joined.Goals as goal

pub returns-then-is_some-clause-step : goal.returns-then-is_some-clause-step
returns-then-is_some-clause-step c instrs ways start u after e first begun ats =
    step_hidden instrs ways start u c.args.first.next.items c.args.first.matched (sym c.is_some.ensures ∙ c.if-is_some.true) first

pub returns-clause-step : goal.returns-clause-step
returns-clause-step c instrs ways start u after e first begun ats =
    let none = thin_none c.len-2.result c.reset.new.self c.in_ok-next.next.items c.in_ok-reset.ensures c.in_ok-next.ensures.items in
    let some = c.in_ok-add_all.ensures.thinned [] none in
    let all = c.in_ok-add_begun.ensures.thinned c.deref.result.now some in
    let whole : c.deref.result.now ++ all_from c.args.count c.args.begun.ats.now ≡ c.args.first.next.items ++ all_from (length ways) (map at_of after) =
    ap₂ (λ (a b : List Way). a ++ b) c.deref.ensures.value (ap₂ all_from (sym e) (sym ats)) in
    let thin = subst (λ (ws : List Way). Thinned c.add_begun.new.marks ws c.add_begun.new.next.items) whole all in
    subst (λ (m : Option ℕ). IsStep instrs (ways ++ start ∷ []) u c.add_begun.new.next.items m) (ap (λ (k : ℕ). match_from k c.args.begun.matched) e ∙ sym c.match_from.ensures)
    (step_joined instrs ways start u c.args.first.next.items c.args.first.matched c.args.begun.matched after c.add_begun.new.next.items c.add_begun.new.marks
    (sym c.is_some.ensures ∙ c.if-is_some.false) first begun thin)
