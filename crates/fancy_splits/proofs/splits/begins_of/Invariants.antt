use Rattle.std.proofs.Common.{◌≡◌, ◌<◌, ℕ, false}
use Rattle.fancy_bytes.specs.Sets.{member}
use Rattle.fancy_code.specs.Code.{instrs_of}
use Rattle.fancy_splits.specs.Splits.{byte_alone}
use Rattle.fancy_prices.specs.Prices.{Dies}
use Rattle.fancy_splits.proofs.splits.begins_of.Given as goal

abbrev pub invariant-loop-here : goal.invariant-loop-here
invariant-loop-here l = (b : ℕ) → b < l.here → member l.bytes b ≡ false → Dies (instrs_of l.fn.code) l.fn.code.meaning (byte_alone b) 0 0 l.fn.at
