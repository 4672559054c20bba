use Rattle.std.proofs.Common.{◌+◌, Bool, length, Some, None, sym, ap, ◌∙◌}
use Rattle.std.specs.Prelude.{if◌then◌else◌}
use Rattle.fancy_meaning.specs.Backreference.{past_letters}
use Rattle.fancy_machine.proofs.RecallLemmas.{letters_if}
use Rattle.fancy_machine.proofs.texts.past_letters.Goals as goal

pub returns-then-eq_ignore_ascii_case : goal.returns-then-eq_ignore_ascii_case
unfolding past_letters
returns-then-eq_ignore_ascii_case c meaning x =
    ap (λ (b : Bool). if b then Some (c.args.place + length c.args.text.now) else None)
    (sym (letters_if c.args.haystack.now _ _ c.args.text.now c.args.place _ c.bytes_from.ensures c.first_of-next.ensures c.eq_ignore_ascii_case.ensures.test ∙ c.if-eq_ignore_ascii_case.true))

pub returns : goal.returns
unfolding past_letters
returns c meaning x =
    ap (λ (b : Bool). if b then Some (c.args.place + length c.args.text.now) else None)
    (sym (letters_if c.args.haystack.now _ _ c.args.text.now c.args.place _ c.bytes_from.ensures c.first_of-next.ensures c.eq_ignore_ascii_case.ensures.test ∙ c.if-eq_ignore_ascii_case.false))
