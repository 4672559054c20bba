use Rattle.std.proofs.Common.{arith}
use Rattle.fancy_bytes.proofs.ItemBytesLemmas.{none_past}
use Rattle.fancy_bytes.proofs.items.is_ascii.Goals as goal

pub returns : goal.returns
returns c even d past = none_past c.args.edges.now d even (λ k lt. c.loop-edge.invariant k (omega (arith, lt, c.loop-edge-test.false))) past
