use Rattle.std.proofs.Common.{ℕ, List, sym, ap, subst, ◌∙◌}
use Rattle.fancy_tree.specs.Sets.{has}
use Rattle.fancy_code.specs.Code.{instrs_of, instr_in, set_edges}
use Rattle.fancy_code.specs.Instructions.{Character, Member, RawByte}
use Rattle.fancy_code.specs.Items.{AreItems}
use Rattle.fancy_code.proofs.ItemLemmas.{each_character, each_member, each_raw_byte}
use Rattle.fancy_code.proofs.items.items_at.Goals as goal

pub returns-in-Character-clause-reads : goal.returns-in-Character-clause-reads
returns-in-Character-clause-reads c =
    each_character (instrs_of c.args.code.now) c.args.code.now.meaning c.bytes_of_character.result c.args.at c.args.back c.in-Character.character
    (sym c.instr.ensures.instr ∙ ap (instr_in c.args.code.now) c.in-Character.is ∙ ap (Character c.in-Character.character) c.if-next-back.true)
    c.bytes_of_character.ensures

pub returns-in-Member-clause-reads : goal.returns-in-Member-clause-reads
returns-in-Member-clause-reads c =
    each_member (instrs_of c.args.code.now) c.args.code.now.meaning c.bytes_of_set.result c.args.at c.args.back (set_edges c.args.code.now c.in-Member.set)
    (sym c.instr.ensures.instr ∙ ap (instr_in c.args.code.now) c.in-Member.is ∙ ap (Member (set_edges c.args.code.now c.in-Member.set)) c.if-next-back-2.true)
    (subst (λ (e : List ℕ). AreItems c.args.code.now.meaning (has e) c.bytes_of_set.result) c.set.ensures c.bytes_of_set.ensures)

pub returns-in-RawByte-clause-reads : goal.returns-in-RawByte-clause-reads
returns-in-RawByte-clause-reads c =
    each_raw_byte (instrs_of c.args.code.now) c.args.code.now.meaning c.of.result c.args.at c.args.back c.in-RawByte.byte
    (sym c.instr.ensures.instr ∙ ap (instr_in c.args.code.now) c.in-RawByte.is ∙ ap (RawByte c.in-RawByte.byte) c.if-next-back-3.true) c.of.ensures
