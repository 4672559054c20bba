use Rattle.std.proofs.Common.{◌≡◌, ◌+◌, ◌-◌, Bool, Option, option_map, subst, sym, IfOk, ℕ}
use Rattle.std.specs.Prelude.{if◌then◌else◌}
use Rattle.fancy_input.specs.declared.span.Span.{Span}
use Rattle.fancy_states.specs.Search.{BegunIn, ends_in, leftmost_in}
use Rattle.fancy_automaton.proofs.search.span_in.Goals as goal

pub returns-then-anchored-clause-answer : goal.returns-then-anchored-clause-answer
returns-then-anchored-clause-answer c =
    let a = c.args.attempt.now in
    subst (λ (b : Bool). IfOk c.span_at.result (λ (found : Option Span). (deep : ℕ) → BegunIn a deep
    → option_map ends_in found ≡ leftmost_in a deep (if b then 1 else (a.last + 1 - a.base)) a.base)) (sym c.if-anchored.true) c.span_at.ensures.answer

pub returns-else-anchored-clause-answer : goal.returns-else-anchored-clause-answer
returns-else-anchored-clause-answer c =
    let a = c.args.attempt.now in
    subst (λ (b : Bool). IfOk c.find_span.result (λ (found : Option Span). (deep : ℕ) → BegunIn a deep
    → option_map ends_in found ≡ leftmost_in a deep (if b then 1 else (a.last + 1 - a.base)) a.base)) (sym c.if-anchored.false) c.find_span.ensures.answer
