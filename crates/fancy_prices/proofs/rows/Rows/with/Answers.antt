use Rattle.std.proofs.Common.{ℕ, ap, ◌∙◌, arith, slice_index}
use Rattle.std.specs.Prelude.{if◌then◌else◌}
use Rattle.fancy_bytes.specs.Sets.{member}
use Rattle.fancy_prices.proofs.RowLemmas.{more_tell}
use Rattle.fancy_prices.proofs.rows.Rows.with.Goals as goal

pub returns : goal.returns
returns c =
    more_tell c.args.code.now c.args.self
    (record { rows = c.push.new.self; numbers = c.numbered-numbers.result; some = c.result-2-1.given.0; numbered = c.result-2-1.given.1.0 }) c.new.result c.args.kind c.prices_after.result
    c.in_ok-push.ensures.items c.new.ensures
    (λ b lt. c.numbered-numbers.ensures b lt
    ∙ ap (λ (n : ℕ). if member c.args.kind.now.bytes b then n else (slice_index c.args.self.numbers b)) (omega (arith, c.len-number.ensures, c.args.self.rows.ok.0, c.if-number.false)))
    c.prices_after.ensures c.requires.others
