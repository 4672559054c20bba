use Rattle.std.proofs.Common.{arith, subst, sym}
use Rattle.fancy_code.specs.Attempt.{context_in}
use Rattle.fancy_alphabet.specs.Sides.{IsBefore}
use Rattle.fancy_alphabet.specs.declared.side.Side.{Side}
use Rattle.fancy_alphabet.proofs.SideLemmas.{low_side_before, nothing_before, wide_side_before}
use Rattle.fancy_alphabet.proofs.side.side_before.Goals as goal

pub returns-in-None : goal.returns-in-None
returns-in-None c =
    let x = context_in c.args.attempt.now in
    subst (λ (s : Side). IsBefore x c.args.place s) (sym c.nothing.ensures) (nothing_before x c.args.place c.requires (sym c.in-None.ensures))

pub returns-in-Some : goal.returns-in-Some
returns-in-Some c =
    let x = context_in c.args.attempt.now in
    subst (λ (s : Side). IsBefore x c.args.place s) (sym c.of_byte.ensures)
    (low_side_before x c.args.place c.in-Some.byte (omega (arith, c.if-byte-lt128.true)) (sym c.in-Some.ensures))

pub returns-in-Some-2 : goal.returns-in-Some-2
returns-in-Some-2 c =
    let x = context_in c.args.attempt.now in
    subst (λ (s : Side). IsBefore x c.args.place s) (sym c.wide.ensures)
    (wide_side_before x c.args.place c.in-Some.byte c.is_word_before.result (omega (arith, c.if-byte-lt128.false)) (sym c.in-Some.ensures) c.is_word_before.ensures)
