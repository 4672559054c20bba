use Rattle.std.proofs.Common.{◌≡◌, length, take}
use Rattle.fancy_tree.specs.Names.{named_groups}
use Rattle.fancy_core.specs.Regexes.{group_count_in}
use Rattle.fancy_core.proofs.CaptureNamesLemmas.{Placed}
use Rattle.fancy_core.proofs.regex.Regex.capture_names.Given as goal

abbrev pub invariant-loop-named : goal.invariant-loop-named
invariant-loop-named l = (length l.names.items ≡ group_count_in l.fn.self) × Placed l.names.items (named_groups (take l.named-index l.groups))
