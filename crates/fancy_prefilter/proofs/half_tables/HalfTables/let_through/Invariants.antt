use Rattle.std.proofs.Common.{◌≡◌, ◌<◌, ℕ, true}
use Rattle.fancy_bytes.specs.Sets.{member}
use Rattle.fancy_prefilter.specs.HalfTables.{LetsThrough}
use Rattle.fancy_prefilter.proofs.half_tables.HalfTables.let_through.Given as goal

abbrev pub invariant-loop-byte : goal.invariant-loop-byte
invariant-loop-byte l = (b : ℕ) → b < l.byte → member l.set b ≡ true → LetsThrough l.self.low l.self.high b
