use Rattle.std.proofs.Common.{◌≡◌, ◌<◌, ℕ, false, length}
use Rattle.std.specs.Prelude.{slice_index_or}
use Rattle.fancy_code.specs.Code.{instrs_of}
use Rattle.fancy_splits.specs.declared.denials.Sight.TheVariants.{Unclear}
use Rattle.fancy_splits.specs.Denials.{IsSight}
use Rattle.fancy_splits.proofs.denials.sights_ahead.Given as goal

abbrev pub invariant-loop-here : goal.invariant-loop-here
invariant-loop-here l = record {
  size : length l.sights ≡ 256;
  below : (b : ℕ) → b < l.here → IsSight (instrs_of l.fn.code) l.fn.code.meaning false l.fn.body b (slice_index_or l.sights b Unclear);
}
