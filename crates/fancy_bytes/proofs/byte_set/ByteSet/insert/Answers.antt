use Rattle.std.proofs.Common.{◌∙◌, ◌/◌, ◌==◌, ◌||◌, ap, refl, arith, slice_index}
use Rattle.fancy_bytes.specs.Sets.{member}
use Rattle.fancy_bytes.proofs.SetLemmas.{member-added}
use Rattle.fancy_bytes.proofs.byte_set.ByteSet.insert.Goals as goal

pub returns : goal.returns
returns c b lt =
    let size = c.self.told in
    member-added c.self.inside.words c.args.byte b (slice_index c.self.inside.words (c.args.byte / 64)) (omega arith) refl lt
    ∙ ap (λ x. member x b || (b == c.args.byte)) c.self.view_is
