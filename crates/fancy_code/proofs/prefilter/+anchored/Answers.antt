use Rattle.std.proofs.Common.{sym, ap, ◌∙◌, arith, inl, inr}
use Rattle.fancy_tree.specs.declared.tree.Assertion.{Assertion}
use Rattle.fancy_code.specs.Code.{instrs_of, instr_in}
use Rattle.fancy_code.specs.Instructions as i
use Rattle.fancy_code.proofs.InstructionLemmas.{length-instrs_of}
use Rattle.fancy_code.proofs.ForetoldLemmas.{anchored_nowhere, anchored_start, anchored_assert, anchored_open, anchored_close, anchored_split}
use Rattle.fancy_code.proofs.prefilter.+anchored.Goals as goal

pub returns-then-at-len : goal.returns-then-at-len
returns-then-at-len t c e = anchored_nowhere (instrs_of c.args.code.now) c.args.anchor c.args.at (omega (arith, c.if-at-len.true, c.len.ensures, length-instrs_of c.args.code.now))

pub returns-then-is_anchored : goal.returns-then-is_anchored
returns-then-is_anchored t c e =
    anchored_split (instrs_of c.args.code.now) c.args.anchor c.args.at c.in-Split.first c.in-Split.second (sym c.instr.ensures.instr ∙ ap (instr_in c.args.code.now) c.in-Split.is)
    (c.is_anchored-in-Split.ensures c.if-is_anchored.true) (c.is_anchored-then-is_anchored.ensures e)

pub returns-in-Open : goal.returns-in-Open
returns-in-Open t c e =
    elim c.in-Open.is [
      | inl o ↦ anchored_open (instrs_of c.args.code.now) c.args.anchor c.args.at o.0 c.in-Open.next (sym c.instr.ensures.instr ∙ ap (instr_in c.args.code.now) o.1) (c.is_anchored-in-Open.ensures e)
      | inr o ↦ anchored_close (instrs_of c.args.code.now) c.args.anchor c.args.at o.0 c.in-Open.next (sym c.instr.ensures.instr ∙ ap (instr_in c.args.code.now) o.1) (c.is_anchored-in-Open.ensures e)
    ]

pub returns-then-is_same : goal.returns-then-is_same
returns-then-is_same t c e =
    anchored_start (instrs_of c.args.code.now) c.args.anchor c.args.at c.in-Assert.next
    (sym c.instr.ensures.instr ∙ ap (instr_in c.args.code.now) c.in-Assert.is ∙ ap (λ (a : Assertion). i.Assert a c.in-Assert.next) (c.is_same.ensures c.if-is_same.true))

pub returns-else-is_same : goal.returns-else-is_same
returns-else-is_same t c e =
    anchored_assert (instrs_of c.args.code.now) c.args.anchor c.args.at c.in-Assert.assertion c.in-Assert.next (sym c.instr.ensures.instr ∙ ap (instr_in c.args.code.now) c.in-Assert.is)
    (c.is_anchored.ensures e)
