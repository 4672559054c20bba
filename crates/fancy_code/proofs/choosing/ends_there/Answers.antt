use Rattle.std.proofs.Common.{sym, ap, ◌∙◌, inl, inr}
use Rattle.fancy_code.specs.Code.{instrs_of, instr_in}
use Rattle.fancy_code.proofs.ForetoldLemmas.{anchored_start, anchored_open, anchored_close}
use Rattle.fancy_code.proofs.choosing.ends_there.Goals as goal

pub returns-in-Assert : goal.returns-in-Assert
returns-in-Assert c is = (
  c.in-Assert.assertion,
  c.is_end.ensures is,
  c.loop.invariant c.in-Assert.assertion
      (anchored_start (instrs_of c.args.code.now) c.in-Assert.assertion c.loop.at _ (sym c.instr.ensures.instr ∙ ap (instr_in c.args.code.now) c.in-Assert.is)),
)

pub loop-preserved : goal.loop-preserved
loop-preserved c a here =
    c.loop.invariant a
    (elim c.in-Open.is [
      | inl o ↦ anchored_open (instrs_of c.args.code.now) a c.loop.at o.0 c.in-Open.next (sym c.instr.ensures.instr ∙ ap (instr_in c.args.code.now) o.1) here
      | inr o ↦ anchored_close (instrs_of c.args.code.now) a c.loop.at o.0 c.in-Open.next (sym c.instr.ensures.instr ∙ ap (instr_in c.args.code.now) o.1) here
    ])
