use Rattle.std.proofs.Common.{ℕ, sym, ap, ap₂, ◌∙◌, subst}
use Rattle.std.proofs.lemmas.Option.{same_Some}
use Rattle.fancy_code.specs.Code.{instrs_of, instr_in}
use Rattle.fancy_code.specs.Instructions.{Close}
use Rattle.fancy_splits.specs.Splits.{ReadsEachIn}
use Rattle.fancy_splits.proofs.LoopLemmas.{each_in_group, open_ends}
use Rattle.fancy_splits.proofs.splits.reader_of.Goals as goal

pub returns-then-at-len-clause-alone : goal.returns-then-at-len-clause-alone
returns-then-at-len-clause-alone c is = c.none.ensures.reads c.args.code.now c.args.at c.args.back

pub returns-in_default-past_item-clause-alone : goal.returns-in_default-past_item-clause-alone
returns-in_default-past_item-clause-alone c is = c.none-in_default-past_item.ensures.reads c.args.code.now c.args.at c.args.back

pub returns-then-last-len-clause-alone : goal.returns-then-last-len-clause-alone
returns-then-last-len-clause-alone c is = c.none-then-last-len.ensures.reads c.args.code.now c.args.at c.args.back

pub returns-in_default-instr-clause-alone : goal.returns-in_default-instr-clause-alone
returns-in_default-instr-clause-alone c is = c.none-in_default-instr.ensures.reads c.args.code.now c.args.at c.args.back

pub returns-in-Close-clause-ends : goal.returns-in-Close-clause-ends
returns-in-Close-clause-ends c is =
    open_ends (instrs_of c.args.code.now) c.args.at c.in-Open.group c.in-Open.inner (sym c.instr.ensures.instr ∙ ap (instr_in c.args.code.now) c.in-Open.is) (c.reader_at-reader.ensures.ends is)

pub returns-in-Close-clause-within : goal.returns-in-Close-clause-within
returns-in-Close-clause-within c g is =
    let code = instrs_of c.args.code.now in
    subst (λ (h : ℕ). ReadsEachIn code c.args.code.now.meaning c.reader_at-reader.result.items h c.args.at c.args.back) (same_Some _ _ is)
    (each_in_group code c.args.code.now.meaning c.reader_at-reader.result.items c.in-Open.group c.args.at c.in-Open.inner c.in-Some.last c.args.back
    (sym c.instr.ensures.instr ∙ ap (instr_in c.args.code.now) c.in-Open.is) c.reader_at-reader.ensures.reads
    (sym c.instr-2.ensures.instr ∙ ap (instr_in c.args.code.now) c.in-Close.is ∙ ap₂ Close c.if-closed-group.true c.if-next-back.true))
