use Rattle.std.proofs.Common.{◌≡◌, get_or, true, false, sym, ap, ◌∙◌, arith}
use Rattle.std.specs.Char.{is_ascii_digit}
use Rattle.fancy_syntax.proofs.CountLemmas.{digit_at, no_digit_at, no_more_digits}
use Rattle.fancy_syntax.proofs.count.decimal.Goals as goal

pub returns-then-not-is_ascii_digit : goal.returns-then-not-is_ascii_digit
returns-then-not-is_ascii_digit c =
    let h : is_ascii_digit (get_or c.args.text.now c.loop-c.c-index c.c-item.result) ≡ false = ap is_ascii_digit (sym c.c-item.is) ∙ (sym c.is_ascii_digit.ensures.value ∙ c.if-not-is_ascii_digit.true) in
    omega (arith, c.loop-c.invariant.value, c.loop-c.invariant.fits, no_digit_at c.args.text.now c.loop-c.c-index c.c-item.result c.loop-c.number c.loop-c-test.true h)

pub loop-c-preserved : goal.loop-c-preserved
loop-c-preserved c =
    let h : is_ascii_digit (get_or c.args.text.now c.loop-c.c-index c.c-item.result) ≡ true = ap is_ascii_digit (sym c.c-item.is) ∙ (sym c.is_ascii_digit.ensures.value ∙ c.if-not-is_ascii_digit.false) in
    record {
      value = c.loop-c.invariant.value
          ∙ digit_at c.args.text.now c.loop-c.c-index c.c-item.result c.loop-c.number c.saturating_add-number.result c.loop-c-test.true h (omega (arith, c.saturating_add-number.ensures, c.saturating_mul.ensures, c.c-item.is));
      fits = c.saturating_add-number.type_inv;
    }

pub returns : goal.returns
returns c =
    omega (arith, c.loop-c.invariant.value, c.loop-c.invariant.fits, no_more_digits c.args.text.now c.loop-c.c-index c.loop-c.number c.loop-c-test.false)
