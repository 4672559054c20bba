use Rattle.std.proofs.Common.{refl, sym, ◌∙◌, arith}
use Rattle.fancy_input.proofs.LastLinesLemmas.{told_none, told_all}
use Rattle.fancy_input.proofs.last_lines.Row.is_followed.Goals as goal

pub past_line_end-requires : goal.past_line_end-requires
past_line_end-requires c = omega (arith, c.loop-at.invariant.told.inside)

pub returns-in-None-clause-told : goal.returns-in-None-clause-told
returns-in-None-clause-told c =
    told_none c.args.crlf c.args.haystack.now c.loop-at.self c.loop-at.invariant.told c.loop-at.at (c.in-None.ensures.other refl)

pub returns-clause-only : goal.returns-clause-only
returns-clause-only c = sym (c.loop-at.invariant.same ∙ c.loop-at.invariant.told.from c.loop-at.at c.loop-at-test.false)

pub returns-clause-told : goal.returns-clause-told
returns-clause-told c =
    told_all c.args.crlf c.args.haystack.now c.loop-at.self c.loop-at.invariant.told c.args.place
    (c.loop-at.invariant.same ∙ c.loop-at.invariant.told.from c.loop-at.at c.loop-at-test.false) (omega (arith, c.requires.inside))
