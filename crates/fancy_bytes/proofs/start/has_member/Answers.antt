use Rattle.std.proofs.Common.{◌∙◌, arith}
use Rattle.fancy_tree.specs.Members.{edges_of}
use Rattle.fancy_bytes.proofs.EdgeLemmas.{first_tells, no_member}
use Rattle.fancy_bytes.proofs.start.has_member.Goals as goal

pub returns-then-last-first : goal.returns-then-last-first
returns-then-last-first c = no_member (edges_of c.args.items.now) c.args.first c.args.last (λ d low lt. absurd (omega (arith, low, lt, c.if-last-first.true)))

pub returns-in-None : goal.returns-in-None
returns-in-None c = no_member (edges_of c.args.items.now) c.args.first c.args.last (λ d low lt. (rw c.edges.ensures at c.in-None.ensures) d low)

pub returns-in-Some : goal.returns-in-Some
returns-in-Some c =
    let is = rw c.edges.ensures at c.in-Some.ensures in
    first_tells (edges_of c.args.items.now) c.args.first c.args.last c.in-Some.member is.0 is.1 is.2
