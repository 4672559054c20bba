use Rattle.std.proofs.Common.{◌≡◌, ◌≤◌, take}
use Rattle.std.specs.Prelude.{vec_len}
use Rattle.fancy_trail.specs.Layers.{branches_in}
use Rattle.fancy_trail.proofs.layer.cut.Given as goal

abbrev pub invariant-layers : goal.invariant-layers
invariant-layers l = record {
  counted : l.branches ≡ branches_in l.layers.items;
  fits : l.len ≤ vec_len l.layers;
  kept : take l.len l.layers.items ≡ take l.len l.fn.layers.items;
  fewer : l.branches ≤ l.fn.branches;
}

abbrev pub decreases-layers : goal.decreases-layers
decreases-layers l = vec_len l.layers
