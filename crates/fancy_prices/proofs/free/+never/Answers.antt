use Rattle.std.proofs.Common.{ℕ, List, ◌∙◌, sym, ap}
use Rattle.fancy_code.specs.Instructions.{Member}
use Rattle.fancy_code.specs.Code.{instrs_of, instr_in}
use Rattle.fancy_prices.specs.Prices.{StopsNeverBehind}
use Rattle.fancy_prices.proofs.PriceForms.{chosen, same_price, still_nothing}
use Rattle.fancy_prices.proofs.BehindLemmas.{never_back, never_character, never_member, never_split}
use Rattle.fancy_prices.proofs.free.+never.Goals as goal

pub returns-then-ends_otherwise : goal.returns-then-ends_otherwise
returns-then-ends_otherwise t c =
    same_price (λ (m r : ℕ). StopsNeverBehind (instrs_of c.args.code.now) c.args.ending m r c.args.at) c.nothing.result 0 0 c.nothing.ensures.0 c.nothing.ensures.1
    (c.ends_otherwise.ensures c.if-ends_otherwise.true c.args.at (sym c.instr.ensures.instr ∙ ap (instr_in c.args.code.now) c.in-Character.is))

pub returns-then-member_ends_otherwise : goal.returns-then-member_ends_otherwise
returns-then-member_ends_otherwise t c =
    same_price (λ (m r : ℕ). StopsNeverBehind (instrs_of c.args.code.now) c.args.ending m r c.args.at) c.nothing-then-member_ends_otherwise.result 0 0
    c.nothing-then-member_ends_otherwise.ensures.0 c.nothing-then-member_ends_otherwise.ensures.1
    (c.member_ends_otherwise.ensures c.if-member_ends_otherwise.true c.args.at
    (sym c.instr.ensures.instr ∙ ap (instr_in c.args.code.now) c.in-Member.is ∙ ap (λ (e : List ℕ). Member e c.in-Member.next) (sym c.set.ensures)))

pub returns-in_ok-stops_never_behind-in-Back : goal.returns-in_ok-stops_never_behind-in-Back
returns-in_ok-stops_never_behind-in-Back t c =
    still_nothing (λ (m r : ℕ). StopsNeverBehind (instrs_of c.args.code.now) c.args.ending m r c.args.at)
    (λ (m r : ℕ). StopsNeverBehind (instrs_of c.args.code.now) c.args.ending m r c.in-Back.next) c.if_nothing.result c.in_ok-stops_never_behind-in-Back.field-0 c.if_nothing.ensures
    c.in_ok-stops_never_behind-in-Back.ensures
    (never_back (instrs_of c.args.code.now) c.args.ending c.args.at _ c.in-Back.next (sym c.instr.ensures.instr ∙ ap (instr_in c.args.code.now) c.in-Back.is))

pub returns-in_ok-stops_never_behind-in-Character : goal.returns-in_ok-stops_never_behind-in-Character
returns-in_ok-stops_never_behind-in-Character t c =
    still_nothing (λ (m r : ℕ). StopsNeverBehind (instrs_of c.args.code.now) c.args.ending m r c.args.at)
    (λ (m r : ℕ). StopsNeverBehind (instrs_of c.args.code.now) c.args.ending m r c.in-Character.next) c.if_nothing-in-Character.result c.in_ok-stops_never_behind-in-Character.field-0
    c.if_nothing-in-Character.ensures c.in_ok-stops_never_behind-in-Character.ensures
    (never_character (instrs_of c.args.code.now) c.args.ending c.args.at c.in-Character.character c.in-Character.next (sym c.instr.ensures.instr ∙ ap (instr_in c.args.code.now) c.in-Character.is))

pub returns-in_ok-stops_never_behind-in-Member : goal.returns-in_ok-stops_never_behind-in-Member
returns-in_ok-stops_never_behind-in-Member t c =
    still_nothing (λ (m r : ℕ). StopsNeverBehind (instrs_of c.args.code.now) c.args.ending m r c.args.at)
    (λ (m r : ℕ). StopsNeverBehind (instrs_of c.args.code.now) c.args.ending m r c.in-Member.next) c.if_nothing-in-Member.result c.in_ok-stops_never_behind-in-Member.field-0
    c.if_nothing-in-Member.ensures c.in_ok-stops_never_behind-in-Member.ensures
    (never_member (instrs_of c.args.code.now) c.args.ending c.args.at _ c.in-Member.next (sym c.instr.ensures.instr ∙ ap (instr_in c.args.code.now) c.in-Member.is))

pub returns-in_ok-stops_never_behind-in-Split : goal.returns-in_ok-stops_never_behind-in-Split
returns-in_ok-stops_never_behind-in-Split t c =
    let first = c.in_ok-first-in-Split.first in
    let second = c.in_ok-stops_never_behind-in-Split.field-0 in
    chosen (λ (m r : ℕ). StopsNeverBehind (instrs_of c.args.code.now) c.args.ending m r c.args.at) c.or.result first second c.or.ensures
    (never_split (instrs_of c.args.code.now) c.args.ending first.marks first.returns second.marks second.returns c.args.at c.in-Split.first c.in-Split.second
    (sym c.instr.ensures.instr ∙ ap (instr_in c.args.code.now) c.in-Split.is) c.in_ok-first-in-Split.ensures c.in_ok-stops_never_behind-in-Split.ensures)
