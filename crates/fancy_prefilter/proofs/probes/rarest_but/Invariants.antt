use Rattle.std.proofs.Common.{◌<◌, length}
use Rattle.fancy_prefilter.proofs.probes.rarest_but.Given as goal

abbrev pub invariant-loop-place : goal.invariant-loop-place
invariant-loop-place l = l.rarest < length l.sets
