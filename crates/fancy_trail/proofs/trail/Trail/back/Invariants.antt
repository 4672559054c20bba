use Rattle.std.proofs.Common.{◌≡◌, ◌≤◌, false, List, length, map}
use Rattle.std.specs.Prelude.{vec_len}
use Rattle.fancy_trail.specs.Frames.{Spot, Frame}
use Rattle.fancy_trail.specs.Layers.{frames_of, branches_in, Rises, KnowRegions, IsLog}
use Rattle.fancy_trail.specs.Log.{cell_slot, IsUnwritten}
use Rattle.fancy_trail.specs.Ways.{IsSpent, Takes}
use Rattle.fancy_trail.proofs.trail.Trail.back.Given as goal

abbrev pub invariant-layers : goal.invariant-layers
invariant-layers l = record {
  branches : l.self-inside.branches ≡ branches_in l.self-inside.layers.items;
  few : l.self-inside.branches ≤ l.self-inside.most;
  rises : Rises 0 l.self-inside.layers.items (length l.self-inside.log.items);
  knows : KnowRegions 0 0 l.self-inside.layers.items l.self-inside.region;
  logged : IsLog l.self-inside.layers.items l.self-inside.log.items l.self-inside.cells.items;
  unwritten : l.self-inside.written ≡ false → IsUnwritten l.self-inside.log.items l.self-inside.cells.items;
  most : l.self-inside.most ≡ l.fn.self.most;
  work : l.work ≡ l.fn.work;
  takes : (y : Spot) (rest : List Frame) → Takes (frames_of l.self-inside.log.items (map cell_slot l.self-inside.cells.items) l.self-inside.layers.items) y rest → Takes l.fn.self.frames y rest;
  spent : IsSpent (frames_of l.self-inside.log.items (map cell_slot l.self-inside.cells.items) l.self-inside.layers.items) → IsSpent l.fn.self.frames;
  unspent : IsSpent l.fn.self.frames → IsSpent (frames_of l.self-inside.log.items (map cell_slot l.self-inside.cells.items) l.self-inside.layers.items);
}

abbrev pub decreases-layers : goal.decreases-layers
decreases-layers l = vec_len l.self-inside.layers
