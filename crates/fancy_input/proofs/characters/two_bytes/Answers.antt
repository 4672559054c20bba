use Rattle.std.proofs.Common.{sym, refl, true≢false, ◌∙◌, arith}
use Rattle.fancy_input.proofs.CharacterLemmas.{char_at-none}
use Rattle.fancy_input.proofs.DecodingLemmas.{char_at-number, two_read, two_written}
use Rattle.fancy_input.proofs.characters.two_bytes.Goals.{then-first-lt194-via-then-first-lt194, then-first-lt194-via-else-first-lt194+then-not-is_continuation}
use Rattle.fancy_input.proofs.characters.two_bytes.Goals as goal

pub returns-then-first-lt194 : goal.returns-then-first-lt194
returns-then-first-lt194 c =
    sym (char_at-none _ 0 (λ d rest h e.
    let read = two_read c.args.first c.args.second d rest c.requires e in
    elim c.then-first-lt194.branch [
      | then-first-lt194-via-then-first-lt194 w ↦ omega (arith, read.0, w.if-first-lt194.true)
      | then-first-lt194-via-else-first-lt194+then-not-is_continuation w ↦ true≢false (sym read.1 ∙ sym w.is_continuation.ensures ∙ w.if-not-is_continuation.true)
    ]))

pub returns : goal.returns
returns c =
    char_at-number _ _ _ c.from_u32.ensures.value
    (two_written c.args.first c.args.second _ c.requires (omega arith) (sym c.is_continuation.ensures ∙ c.if-not-is_continuation.false) refl)
    (λ d rest h e. (two_read c.args.first c.args.second d rest c.requires e).2)
