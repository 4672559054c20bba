use Rattle.std.proofs.Common.{ℕ, ◌∙◌, IfSome, sym, subst}
use Rattle.std.specs.declared.option.Option.{Option}
use Rattle.fancy_code.specs.Code.{instrs_of}
use Rattle.fancy_splits.specs.Splits.{StopsAt}
use Rattle.fancy_splits.proofs.splits.split_at.Goals as goal

pub returns : goal.returns
returns c =
    let told = c.reader_of-reader.ensures in
    let same = c.flags_of-items.ensures in
    record {
      splits = c.in_ok-ways.ensures;
      reads = λ alone b lt is. told.alone alone b lt (sym (same b lt) ∙ is);
      reads_in = λ g within b lt is. told.within g within b lt (sym (same b lt) ∙ is);
      ends = told.ends c.if-not-reader.false;
      stops = λ next is. subst (λ (o : Option ℕ). IfSome o (λ q. StopsAt (instrs_of c.args.code.now) c.in_ok-ways.ways.second q)) is c.stop_at.ensures;
      misses = λ b lt is. c.begins_of.ensures b lt (sym (c.flags_of-begins.ensures b lt) ∙ is);
      leaves = λ b lt is. c.leaves_of.ensures b lt (sym (c.flags_of-leaves.ensures b lt) ∙ is);
      apart = c.are_apart.ensures;
    }
