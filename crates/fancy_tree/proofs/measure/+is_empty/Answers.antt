use Rattle.std.proofs.Common.{sym, map, arith}
use Rattle.std.proofs.lemmas.Grind.{common_steps}
use Rattle.fancy_tree.specs.Pattern.{pattern_of}
use Rattle.fancy_tree.proofs.PatternLemmas.{pattern-Concat}
use Rattle.fancy_tree.proofs.EmptyLemmas.{several, no_leaf}
use Rattle.fancy_tree.proofs.measure.+is_empty.Goals as goal

pub returns-in_default-as_slice : goal.returns-in_default-as_slice
returns-in_default-as_slice t c =
    rw (c.in-Concat.is, pattern-Concat)
    (sym (several (map pattern_of c.in-Concat.parts.items) (grind (arith, common_steps, c.in_default-as_slice.len_at_least, c.as_slice.ensures.value))))

pub returns-in_default : goal.returns-in_default
returns-in_default t c = sym (no_leaf c.args.tree.now c.in_default.not-Empty c.in_default.not-Concat)
