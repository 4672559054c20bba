use Rattle.std.proofs.Common.{◌+◌, Some, ℕ, sym, ap, ◌∙◌, arith}
use Rattle.fancy_machine.proofs.RecallLemmas.{sharing_none, sharing_other, sharing_some, character_fits}
use Rattle.fancy_machine.proofs.texts.past_sharing.Goals as goal

pub returns-in_err-found : goal.returns-in_err-found
returns-in_err-found c x =
    c.from_residual.ensures ∙ sym (sharing_none c.args.haystack.now x c.args.c c.args.place (sym c.in_err-found.was ∙ c.character_at.ensures))

pub returns-then-not-shares_folding : goal.returns-then-not-shares_folding
returns-then-not-shares_folding c x =
    sym (sharing_other c.args.haystack.now x c.args.c c.args.place c.in_ok-found.found _ c.in_ok-found.ensures c.shares_folding.ensures c.if-not-shares_folding.true)

pub overflow_add-result : goal.overflow_add-result
overflow_add-result c = omega (arith, character_fits c.args.haystack.now c.args.place c.in_ok-found.found c.in_ok-found.ensures, c.len_utf8.ensures.value)

pub returns : goal.returns
returns c x =
    ap (λ (n : ℕ). Some (c.args.place + n)) c.len_utf8.ensures.value
    ∙ sym (sharing_some c.args.haystack.now x c.args.c c.args.place c.in_ok-found.found _ c.in_ok-found.ensures c.shares_folding.ensures c.if-not-shares_folding.false)
