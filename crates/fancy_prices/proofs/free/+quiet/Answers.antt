use Rattle.std.proofs.Common.{sym, ap, ◌∙◌, arith, inl, inr}
use Rattle.fancy_code.specs.Code.{instrs_of, instr_in}
use Rattle.fancy_code.proofs.InstructionLemmas.{length-instrs_of}
use Rattle.fancy_prices.proofs.DyingWays.{quiet_nowhere, quiet_back, quiet_assert, quiet_open, quiet_close, quiet_character, quiet_member, quiet_raw_byte}
use Rattle.fancy_prices.proofs.free.+quiet.Goals as goal

pub returns-then-at-len : goal.returns-then-at-len
returns-then-at-len t c e = quiet_nowhere (instrs_of c.args.code.now) c.args.at (omega (arith, c.if-at-len.true, c.len.ensures, length-instrs_of c.args.code.now))

pub returns-in-Back : goal.returns-in-Back
returns-in-Back t c e = quiet_back (instrs_of c.args.code.now) c.args.at _ c.in-Back.next (sym c.instr.ensures.instr ∙ ap (instr_in c.args.code.now) c.in-Back.is) (c.is_quiet.ensures e)

pub returns-in-Assert : goal.returns-in-Assert
returns-in-Assert t c e =
    elim c.in-Assert.is [
      | inl a ↦ quiet_assert (instrs_of c.args.code.now) c.args.at a.0 c.in-Assert.next (sym c.instr.ensures.instr ∙ ap (instr_in c.args.code.now) a.1) (c.is_quiet-in-Assert.ensures e)
      | inr others ↦ elim others [
        | inl o ↦ quiet_open (instrs_of c.args.code.now) c.args.at o.0 c.in-Assert.next (sym c.instr.ensures.instr ∙ ap (instr_in c.args.code.now) o.1) (c.is_quiet-in-Assert.ensures e)
        | inr o ↦ quiet_close (instrs_of c.args.code.now) c.args.at o.0 c.in-Assert.next (sym c.instr.ensures.instr ∙ ap (instr_in c.args.code.now) o.1) (c.is_quiet-in-Assert.ensures e)
      ]
    ]

pub returns-in-Character : goal.returns-in-Character
returns-in-Character t c e =
    elim c.in-Character.is [
      | inl i ↦ quiet_character (instrs_of c.args.code.now) c.args.at i.0 c.in-Character.next (sym c.instr.ensures.instr ∙ ap (instr_in c.args.code.now) i.1) (c.is_quiet-in-Character.ensures e)
      | inr others ↦ elim others [
        | inl i ↦ quiet_member (instrs_of c.args.code.now) c.args.at _ c.in-Character.next (sym c.instr.ensures.instr ∙ ap (instr_in c.args.code.now) i.1) (c.is_quiet-in-Character.ensures e)
        | inr i ↦ quiet_raw_byte (instrs_of c.args.code.now) c.args.at i.0 c.in-Character.next (sym c.instr.ensures.instr ∙ ap (instr_in c.args.code.now) i.1) (c.is_quiet-in-Character.ensures e)
      ]
    ]
