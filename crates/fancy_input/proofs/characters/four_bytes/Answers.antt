use Rattle.std.proofs.Common.{sym, refl, true≢false, ◌∙◌, arith}
use Rattle.fancy_input.proofs.CharacterLemmas.{char_at-none}
use Rattle.fancy_input.proofs.DecodingLemmas.{char_at-number, four_read, four_written}
use Rattle.fancy_input.proofs.characters.four_bytes.Goals.{then-code-lt65536-via-then-code-lt65536, then-code-lt65536-via-else-code-lt65536+then-not-is_continuation, then-not-is_continuation-2-via-then-not-is_continuation-2, then-not-is_continuation-2-via-else-not-is_continuation-2+then-not-is_continuation-3}
use Rattle.fancy_input.proofs.characters.four_bytes.Goals as goal

pub returns-then-code-lt65536 : goal.returns-then-code-lt65536
returns-then-code-lt65536 c =
    sym (char_at-none _ 0 (λ d rest h e.
    let read = four_read c.args.first c.args.second c.args.third c.args.fourth d rest c.requires h e in
    elim c.then-code-lt65536.branch [
      | then-code-lt65536-via-then-code-lt65536 w ↦ omega (arith, read.0, read.4, w.if-code-lt65536.true)
      | then-code-lt65536-via-else-code-lt65536+then-not-is_continuation w ↦
          true≢false (sym read.1 ∙ sym w.is_continuation.ensures ∙ w.if-not-is_continuation.true)
    ]))

pub returns-then-not-is_continuation-2 : goal.returns-then-not-is_continuation-2
returns-then-not-is_continuation-2 c =
    sym (char_at-none _ 0 (λ d rest h e.
    let read = four_read c.args.first c.args.second c.args.third c.args.fourth d rest c.requires h e in
    elim c.then-not-is_continuation-2.branch [
      | then-not-is_continuation-2-via-then-not-is_continuation-2 w ↦
          true≢false (sym read.2 ∙ sym c.is_continuation-2.ensures ∙ w.if-not-is_continuation-2.true)
      | then-not-is_continuation-2-via-else-not-is_continuation-2+then-not-is_continuation-3 w ↦
          true≢false (sym read.3 ∙ sym w.is_continuation-else-not-is_continuation-2.ensures ∙ w.if-not-is_continuation-3.true)
    ]))

pub returns : goal.returns
returns c =
    char_at-number _ _ _ c.from_u32.ensures.value
    (four_written c.args.first c.args.second c.args.third c.args.fourth _ c.requires (omega arith) c.if-code-lt65536.false
    (sym c.is_continuation.ensures ∙ c.if-not-is_continuation.false)
    (sym c.is_continuation-2.ensures ∙ c.if-not-is_continuation-2.false)
    (sym c.is_continuation-else-not-is_continuation-2.ensures ∙ c.if-not-is_continuation-3.false) refl)
    (λ d rest h e. (four_read c.args.first c.args.second c.args.third c.args.fourth d rest c.requires h e).4)
