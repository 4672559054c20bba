use Rattle.std.proofs.Common.{rules}
use Rattle.fancy_tree.specs.Names.{is_name_character}
use Rattle.fancy_tree.proofs.name.is_name_character.Goals as goal

pub returns-then-is_alphabetic : goal.returns-then-is_alphabetic
unfolding is_name_character
returns-then-is_alphabetic c = search rules

pub returns-then-eq-2 : goal.returns-then-eq-2
unfolding is_name_character
returns-then-eq-2 c = search rules

pub returns-else-eq-2 : goal.returns-else-eq-2
unfolding is_name_character
returns-else-eq-2 c = search rules
