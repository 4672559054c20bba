use Rattle.std.proofs.Common.{◌+◌, Bool, length, Some, None, sym, ap, ◌∙◌}
use Rattle.std.specs.Prelude.{if◌then◌else◌}
use Rattle.fancy_meaning.specs.Backreference.{past_text}
use Rattle.fancy_machine.proofs.RecallLemmas.{stands_if}
use Rattle.fancy_machine.proofs.texts.past_text.Goals as goal

pub returns-then-starts_with : goal.returns-then-starts_with
unfolding past_text
returns-then-starts_with c meaning x =
    ap (λ (b : Bool). if b then Some (c.args.place + length c.args.text.now) else None)
    (sym (stands_if c.args.haystack.now _ c.args.text.now c.args.place _ c.bytes_from.ensures c.starts_with.ensures.value ∙ c.if-starts_with.true))

pub returns : goal.returns
unfolding past_text
returns c meaning x =
    ap (λ (b : Bool). if b then Some (c.args.place + length c.args.text.now) else None)
    (sym (stands_if c.args.haystack.now _ c.args.text.now c.args.place _ c.bytes_from.ensures c.starts_with.ensures.value ∙ c.if-starts_with.false))
