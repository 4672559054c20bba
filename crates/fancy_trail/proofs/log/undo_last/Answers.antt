use Rattle.std.proofs.Common.{sym, ◌∙◌, arith}
use Rattle.std.proofs.lemmas.List.{set_past}
use Rattle.fancy_trail.proofs.LogLemmas.{undo_pop}
use Rattle.fancy_trail.proofs.log.undo_last.Goals as goal

pub writes-preserved-then-write-len : goal.writes-preserved-then-write-len
writes-preserved-then-write-len c =
    let p = undo_pop c.args.log.now.items c.writes.log.items c.pop.new.self.items c.in-Some.write c.args.cells.now.items c.writes.cells.items _ _ c.writes.invariant.kept c.in-Some.ensures.items (sym c.pop.new.self.ok.0) c.writes.invariant.cells in
    record {
      long = omega (arith, c.in-Some.ensures.len);
      most = omega (arith, c.in-Some.ensures.len, c.writes.invariant.most);
      kept = p.0;
      cells = p.1;
    }

pub writes-preserved : goal.writes-preserved
writes-preserved c =
    let p = undo_pop c.args.log.now.items c.writes.log.items c.pop.new.self.items c.in-Some.write c.args.cells.now.items c.writes.cells.items _ _ c.writes.invariant.kept c.in-Some.ensures.items (sym c.pop.new.self.ok.0) c.writes.invariant.cells in
    record {
      long = omega (arith, c.in-Some.ensures.len);
      most = omega (arith, c.in-Some.ensures.len, c.writes.invariant.most);
      kept = p.0;
      cells = sym (set_past c.writes.cells.items c.in-Some.write.group c.in-Some.write.old (omega (arith, c.if-write-len.false, c.writes.cells.ok.0))) ∙ p.1;
    }
