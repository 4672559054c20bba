use Rattle.std.proofs.Common.{sym, ap, not, ◌∙◌, true≢false, eq-eqb}
use Rattle.fancy_tree.specs.Sets.{has}
use Rattle.fancy_code.specs.Code.{instrs_of, instr_in}
use Rattle.fancy_code.specs.Instructions.{edges_in}
use Rattle.fancy_prices.proofs.FlagLemmas.{off}
use Rattle.fancy_prices.proofs.DyingWays.{dies_character, dies_member, dies_raw_byte}
use Rattle.fancy_prices.proofs.free.begins_otherwise.Goals as goal

pub returns-in-Character : goal.returns-in-Character
returns-in-Character c e =
    dies_character (instrs_of c.args.code.now) c.args.code.now.meaning c.args.facts c.args.at c.in-Character.character c.in-Character.field-1 (sym c.instr.ensures.instr ∙ ap (instr_in c.args.code.now) c.in-Character.is)
    (c.may_begin_character.ensures (off c.may_begin_character.result e))

pub returns-in-Member : goal.returns-in-Member
returns-in-Member c e =
    dies_member (instrs_of c.args.code.now) c.args.code.now.meaning c.args.facts c.args.at c.in-Member.field-1 (has (edges_in c.set.result.now)) (c.may_begin_member.ensures (off c.may_begin_member.result e)) _
    (sym c.instr.ensures.instr ∙ ap (instr_in c.args.code.now) c.in-Member.is) (ap has c.set.ensures)

pub returns-in-RawByte : goal.returns-in-RawByte
returns-in-RawByte c e =
    dies_raw_byte (instrs_of c.args.code.now) c.args.code.now.meaning c.args.facts c.args.at c.in-RawByte.raw c.in-RawByte.field-1 (sym c.instr.ensures.instr ∙ ap (instr_in c.args.code.now) c.in-RawByte.is)
    (λ same. true≢false (sym e ∙ ap not (eq-eqb c.in-RawByte.raw c.args.facts.here (sym same))))
