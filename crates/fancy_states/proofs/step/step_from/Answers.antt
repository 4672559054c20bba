use Rattle.std.proofs.Common.{◌∙◌, [], ℕ, List, Option, ap, arith, length, subst}
use Rattle.std.specs.Option.{option_or}
use Rattle.fancy_states.specs.declared.way.Way.{Way}
use Rattle.fancy_states.specs.Joins.{Thinned}
use Rattle.fancy_states.specs.Ways.{match_end}
use Rattle.fancy_states.proofs.JoinLemmas.{no_ways, thin_none}
use Rattle.fancy_states.proofs.step.step_from.Goals as goal

pub returns-clause-step : goal.returns-clause-step
returns-clause-step c = record {
  step = λ here ends later known beyond rank solves all. (
      let step = rw c.in_ok-load.ensures at (c.in_ok-matched.ensures.answer here ends later known beyond rank solves (rw c.in_ok-load.ensures all)) in
      let thin = subst (λ (ws : List Way). Thinned c.add_all.new.marks ws c.add_all.new.next.items) c.deref.ensures.value
      (c.in_ok-add_all.ensures.thinned [] (thin_none c.len-3.result c.reset-2.new.self c.in_ok-next.next.items c.in_ok-reset-2.ensures c.in_ok-next.ensures.items)) in
      (thin.known beyond step.0, ap (λ (o : Option (ℕ × ℕ)). option_or o (match_end c.in_ok-matched.matched here)) (thin.same later) ∙ step.1));
  halts = λ none.
      let fed = ap length (c.close.ensures.halts none) in
      no_ways c.add_all.new.next.items (omega (arith, fed, c.in_ok-add_all.ensures.more, ap length c.in_ok-next.ensures.items, ap length c.deref.ensures.value));
}
