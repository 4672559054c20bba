use Rattle.std.proofs.Common.{◌-◌, refl, arith}
use Rattle.fancy_syntax.specs.References.{no_number}
use Rattle.fancy_syntax.specs.Views.{groups_of}
use Rattle.fancy_syntax.proofs.ResolveLemmas.{out_of_range, no_such_number}
use Rattle.fancy_syntax.proofs.resolve.Groups.resolve_number.Goals as goal
use Rattle.fancy_syntax.proofs.resolve.Groups.resolve_number.Goals.{else-number-ge1-via-then-number-ge1+else-number-self, else-number-ge1-via-else-number-ge1}

pub returns : goal.returns
returns c n e = (
  no_number c.min.result,
  refl,
  no_such_number (groups_of c.args.self.now) n c.min.result c.if-self.false
      (out_of_range n (c.args.self.now.count - 1) (λ low high. elim c.else-number-ge1.branch [
        | else-number-ge1-via-then-number-ge1+else-number-self w ↦ omega (arith, e, low, high, w.if-number-self.false)
        | else-number-ge1-via-else-number-ge1 w ↦ omega (arith, e, low, w.if-number-ge1.false)
      ])) (omega (arith, c.min.ensures, e)),
)
