use Rattle.std.proofs.Common.{◌∙◌, eq-eqb, ne_eqb}
use Rattle.fancy_meaning.proofs.ReadingLemmas.{byte_there, byte_past, no_byte, a_byte, other_byte}
use Rattle.fancy_code.proofs.step.past_raw_byte.Goals as goal

pub returns-in_err-found-clause-past : goal.returns-in_err-found-clause-past
returns-in_err-found-clause-past c meaning suppressed from =
    c.from_residual.ensures
    ∙ no_byte c.args.haystack.now meaning suppressed from c.args.byte c.args.place (byte_past c.args.haystack.now c.args.place c.in_err-found.ensures.lookup.3)

pub returns-then-found-byte-clause-past : goal.returns-then-found-byte-clause-past
returns-then-found-byte-clause-past c meaning suppressed from =
    let e = c.in_ok-found.ensures.lookup in
    a_byte c.args.haystack.now meaning suppressed from c.args.byte c.args.place _
    (byte_there c.args.haystack.now c.args.place _ e.3.0 e.3.1) (eq-eqb _ _ c.if-found-byte.true)

pub returns-else-found-byte-clause-past : goal.returns-else-found-byte-clause-past
returns-else-found-byte-clause-past c meaning suppressed from =
    let e = c.in_ok-found.ensures.lookup in
    other_byte c.args.haystack.now meaning suppressed from c.args.byte c.args.place _
    (byte_there c.args.haystack.now c.args.place _ e.3.0 e.3.1) (ne_eqb _ _ c.if-found-byte.false)
