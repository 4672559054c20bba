use Rattle.std.proofs.Common.{sym}
use Rattle.fancy_tree.proofs.PatternLemmas.{pattern-RawByte}
use Rattle.fancy_syntax.proofs.LexemeLemmas.{leaf_is}
use Rattle.fancy_syntax.proofs.parser.Parser.literal_tree_by_number.Goals as goal

pub returns-then-is_raw_byte : goal.returns-then-is_raw_byte
returns-then-is_raw_byte c = rw (sym c.if-is_raw_byte.ensures) (leaf_is (pattern-RawByte c.args.c))
