use Rattle.std.proofs.Common.{◌≡◌, ℕ, List, IsUtf8, take, chars}
use Rattle.std.specs.BTreeMap.{get_by_text}
use Rattle.fancy_tree.specs.Names.{named_groups, last_named}
use Rattle.fancy_tree.proofs.name.Names.new.Given as goal

abbrev pub invariant-loop-named : goal.invariant-loop-named
invariant-loop-named l = (name : List ℕ) → IsUtf8 name → get_by_text l.last name ≡ last_named (chars name) (named_groups (take l.named-index l.fn.groups.items))
