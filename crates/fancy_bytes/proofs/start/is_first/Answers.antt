use Rattle.std.proofs.Common.{◌∙◌}
use Rattle.fancy_tree.specs.Members.{edges_of}
use Rattle.fancy_tree.specs.Sets.{has}
use Rattle.fancy_bytes.proofs.ItemLemmas.{first_among, within_codes}
use Rattle.fancy_bytes.proofs.start.is_first.Goals as goal

pub returns : goal.returns
returns c =
    c.has_member.ensures
    ∙ first_among (has (edges_of c.args.items.now)) c.args.byte _ _ c.characters_of-first.ensures.between (within_codes _ c.characters_of-first.ensures.within)
