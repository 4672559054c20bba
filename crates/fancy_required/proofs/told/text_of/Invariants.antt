use Rattle.std.proofs.Common.{◌≡◌, ◌+◌, ◌++◌, drop, length, map}
use Rattle.fancy_required.specs.declared.told.Told.TheVariants.{One}
use Rattle.fancy_required.proofs.told.text_of.Given as goal

abbrev pub invariant-loop-i : goal.invariant-loop-i
invariant-loop-i l = record {
  is : map One l.text.items ++ drop l.i l.told ≡ drop l.from l.told;
  far : l.i ≡ l.from + length l.text.items;
}
