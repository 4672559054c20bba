use Rattle.std.proofs.Common.{◌∙◌, ap, sym, true≢false}
use Rattle.fancy_code.specs.Code.{instr_in}
use Rattle.fancy_splits.proofs.atoms.atom_at.Goals as goal

pub returns : goal.returns
returns c = record {
  enters = sym c.instr.ensures.instr ∙ ap (instr_in c.args.code.now) c.in-Enter.is;
  alone = λ no. absurd (true≢false no);
  reads = λ leads b lt is. c.reader_at-reader.ensures.reads b lt (sym (c.flags_of.ensures b lt) ∙ is);
}
