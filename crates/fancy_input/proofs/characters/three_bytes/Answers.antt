use Rattle.std.proofs.Common.{sym, refl, true≢false, ◌∙◌, arith}
use Rattle.fancy_input.proofs.CharacterLemmas.{char_at-none}
use Rattle.fancy_input.proofs.DecodingLemmas.{char_at-number, three_read, three_written}
use Rattle.fancy_input.proofs.characters.three_bytes.Goals.{then-code-lt2048-via-then-code-lt2048, then-code-lt2048-via-else-code-lt2048+then-not-is_continuation, then-code-lt2048-via-else-code-lt2048+else-not-is_continuation+then-not-is_continuation-2}
use Rattle.fancy_input.proofs.characters.three_bytes.Goals as goal

pub returns-then-code-lt2048 : goal.returns-then-code-lt2048
returns-then-code-lt2048 c =
    sym (char_at-none _ 0 (λ d rest h e.
    let read = three_read c.args.first c.args.second c.args.third d rest c.requires e in
    elim c.then-code-lt2048.branch [
      | then-code-lt2048-via-then-code-lt2048 w ↦ omega (arith, read.0, read.3, w.if-code-lt2048.true)
      | then-code-lt2048-via-else-code-lt2048+then-not-is_continuation w ↦
          true≢false (sym read.1 ∙ sym w.is_continuation.ensures ∙ w.if-not-is_continuation.true)
      | then-code-lt2048-via-else-code-lt2048+else-not-is_continuation+then-not-is_continuation-2 w ↦
          true≢false (sym read.2 ∙ sym w.is_continuation-else-not-is_continuation.ensures ∙ w.if-not-is_continuation-2.true)
    ]))

pub returns : goal.returns
returns c =
    char_at-number _ _ _ c.from_u32.ensures.value
    (three_written c.args.first c.args.second c.args.third _ c.requires c.if-code-lt2048.false
    (sym c.is_continuation.ensures ∙ c.if-not-is_continuation.false)
    (sym c.is_continuation-else-not-is_continuation.ensures ∙ c.if-not-is_continuation-2.false) refl)
    (λ d rest h e. (three_read c.args.first c.args.second c.args.third d rest c.requires e).3)
