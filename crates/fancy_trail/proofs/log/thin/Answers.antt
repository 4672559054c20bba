use Rattle.std.proofs.Common.{◌∙◌, arith}
use Rattle.std.proofs.lemmas.Bool.{lt-ltb, le-ltb}
use Rattle.std.proofs.lemmas.List.Filters.{FiltersInPlace-more_no, FiltersInPlace-more_set}
use Rattle.fancy_trail.proofs.LogLemmas.{thin_step}
use Rattle.fancy_trail.proofs.log.thin.Goals as goal

pub writes-preserved-then-write-level : goal.writes-preserved-then-write-level
writes-preserved-then-write-level c =
    let f = c.writes.invariant.filters in
    let lt = c.writes-test.true in
    let x = c.index-write.result.now in
    record {
      filters = FiltersInPlace-more_no f (omega (arith, lt, f.long, c.len-index-end.ensures, c.args.log.now.ok.0)) (le-ltb x.old.level c.args.level c.if-write-level.true) c.index-write.ensures;
      slots = c.set_level.ensures.slots ∙ c.writes.invariant.slots;
      levels = thin_step c.args.level _ c.writes.index c.args.log.now.items c.writes.log.items x _ _ f (omega (arith, lt, f.long, c.len-index-end.ensures, c.args.log.now.ok.0)) c.index-write.ensures c.set_level.ensures.levels ∙ c.writes.invariant.levels;
    }

pub writes-preserved : goal.writes-preserved
writes-preserved c =
    let f = c.writes.invariant.filters in
    let lt = c.writes-test.true in
    let x = c.index-write.result.now in
    record {
      filters = FiltersInPlace-more_set f (omega (arith, lt, f.long, c.len-index-end.ensures, c.args.log.now.ok.0)) (lt-ltb x.old.level c.args.level c.if-write-level.false) c.index-write.ensures;
      slots = c.set_level.ensures.slots ∙ c.writes.invariant.slots;
      levels = thin_step c.args.level _ c.writes.index c.args.log.now.items c.writes.log.items x _ _ f (omega (arith, lt, f.long, c.len-index-end.ensures, c.args.log.now.ok.0)) c.index-write.ensures c.set_level.ensures.levels ∙ c.writes.invariant.levels;
    }
