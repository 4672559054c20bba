use Rattle.std.proofs.Common.{◌≡◌, ◌∙◌, ◌==◌, List, ℕ, true, sym, ap, eq-eqb}
use Rattle.fancy_tree.specs.Sets.{has}
use Rattle.fancy_code.specs.Code.{instrs_of, instr_in, set_edges}
use Rattle.fancy_code.specs.Instructions.{RawByte}
use Rattle.fancy_code.proofs.ItemLemmas.{reads_character, reads_member, reads_raw_byte}
use Rattle.fancy_splits.proofs.choices.past_byte.Goals as goal

pub returns-in-Character : goal.returns-in-Character
returns-in-Character c =
    let is = sym c.instr.ensures.instr ∙ ap (instr_in c.args.code.now) c.in-Character.is in
    let same : (c.args.here == c.in-Character.character) ≡ true = eq-eqb c.args.here c.in-Character.character (sym c.if-character-here.true) in
    reads_character (instrs_of c.args.code.now) c.args.code.now.meaning c.args.at c.in-Character.next c.args.here c.in-Character.character is (c.is_alone.ensures c.if-not-is_alone.false) same

pub returns-in-Member : goal.returns-in-Member
returns-in-Member c =
    let edges = set_edges c.args.code.now c.in-Member.set in
    let is = sym c.instr.ensures.instr ∙ ap (instr_in c.args.code.now) c.in-Member.is in
    let among : has edges c.args.here ≡ true = ap (λ (e : List ℕ). has e c.args.here) (sym c.set.ensures) ∙ sym c.contains.ensures ∙ c.if-contains.true in
    reads_member (instrs_of c.args.code.now) c.args.code.now.meaning c.args.at c.in-Member.next c.args.here edges is (c.is_alone.ensures c.if-not-is_alone.false) among

pub returns-in-RawByte : goal.returns-in-RawByte
returns-in-RawByte c =
    let is = sym c.instr.ensures.instr ∙ ap (instr_in c.args.code.now) c.in-RawByte.is ∙ ap (λ (b : ℕ). RawByte b c.in-RawByte.next) c.if-byte-here.true in
    reads_raw_byte (instrs_of c.args.code.now) c.args.code.now.meaning c.args.at c.in-RawByte.next c.args.here is
