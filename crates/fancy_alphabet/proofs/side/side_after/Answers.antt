use Rattle.std.proofs.Common.{arith, subst, sym}
use Rattle.fancy_code.specs.Attempt.{context_in}
use Rattle.fancy_alphabet.specs.Sides.{IsAfter}
use Rattle.fancy_alphabet.specs.declared.side.Side.{Side}
use Rattle.fancy_alphabet.proofs.SideLemmas.{low_side_after, nothing_after, wide_side_after}
use Rattle.fancy_alphabet.proofs.side.side_after.Goals as goal

pub returns-in-None : goal.returns-in-None
returns-in-None c =
    let x = context_in c.args.attempt.now in
    subst (λ (s : Side). IsAfter x c.args.place s) (sym c.nothing.ensures) (nothing_after x c.args.place c.requires (sym c.in-None.ensures))

pub returns-in-Some : goal.returns-in-Some
returns-in-Some c =
    let x = context_in c.args.attempt.now in
    subst (λ (s : Side). IsAfter x c.args.place s) (sym c.of_byte.ensures)
    (low_side_after x c.args.place c.in-Some.byte (omega (arith, c.if-byte-lt128.true)) (sym c.in-Some.ensures))

pub returns-in-Some-2 : goal.returns-in-Some-2
returns-in-Some-2 c =
    let x = context_in c.args.attempt.now in
    subst (λ (s : Side). IsAfter x c.args.place s) (sym c.wide.ensures)
    (wide_side_after x c.args.place c.in-Some.byte c.is_word_after.result (omega (arith, c.if-byte-lt128.false)) (sym c.in-Some.ensures) c.is_word_after.ensures)
