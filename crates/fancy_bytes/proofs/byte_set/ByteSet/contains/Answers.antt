use Rattle.std.proofs.Common.{sym, ap, ◌∙◌, arith}
use Rattle.fancy_bytes.specs.Sets.{member}
use Rattle.fancy_bytes.proofs.SetLemmas.{member-words}
use Rattle.fancy_bytes.proofs.byte_set.ByteSet.contains.Goals as goal

pub returns : goal.returns
returns c = c.has_bit.ensures ∙ sym (member-words c.self.inside.words c.args.byte (omega arith)) ∙ ap (λ x. member x c.args.byte) (c.self.view_is)
