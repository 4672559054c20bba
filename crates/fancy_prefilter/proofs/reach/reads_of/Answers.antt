use Rattle.std.proofs.Common.{◌∙◌, ◌||◌, Bool, ap, sym}
use Rattle.fancy_tree.specs.Pattern.{pattern_of}
use Rattle.fancy_bytes.specs.Reads.{item_starts}
use Rattle.fancy_prefilter.proofs.reach.reads_of.Goals as goal

pub returns : goal.returns
returns c b lt none =
    sym (ap (λ (t : Bool). t || item_starts c.args.meaning (pattern_of c.args.tree.now) b) (c.new-reads.ensures b lt)) ∙ sym (c.add_item_starts.ensures b lt) ∙ none
