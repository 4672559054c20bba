use Rattle.std.proofs.Common.{◌≡◌, drop}
use Rattle.fancy_bytes.specs.Lacks.{includes_all, AreKnown}
use Rattle.fancy_bytes.proofs.lacking.RequiredBytes.are_lacking.Given as goal

abbrev pub invariant-loop-i : goal.invariant-loop-i
invariant-loop-i l = (includes_all l.haystack l.self ≡ includes_all l.haystack (drop l.i l.self)) × AreKnown l.known l.haystack
