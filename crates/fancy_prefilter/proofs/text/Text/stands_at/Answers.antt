use Rattle.std.proofs.Common.{◌<◌, ◌∙◌, length, sym, arith}
use Rattle.std.proofs.lemmas.Grind.{get_or_default_zero}
use Rattle.fancy_prefilter.proofs.StandsLemmas.{byte_of, text_within}
use Rattle.fancy_prefilter.proofs.StandsLemmas.{stands_by}
use Rattle.fancy_prefilter.proofs.text.Text.stands_at.Goals as goal

pub returns-then-len-end-clause-lacks : goal.returns-then-len-end-clause-lacks
returns-then-len-end-clause-lacks c _ stands =
    omega (arith, c.if-len-end.true, c.len.ensures, text_within c.args.haystack.now c.args.end c.args.self.now.bytes.items c.args.place c.requires.ordered stands)

pub returns-then-haystack-place-clause-lacks : goal.returns-then-haystack-place-clause-lacks
returns-then-haystack-place-clause-lacks c _ stands =
    let text = c.args.self.now.bytes.items in
    let lt : c.loop-i.i < length text = omega (arith, c.loop-i-test.true, c.len-i-end.ensures) in
    let byte = byte_of c.args.haystack.now c.args.end text c.args.place c.loop-i.i stands lt in
    c.if-haystack-place.true (byte.there ∙ sym (c.index.ensures ∙ get_or_default_zero text c.loop-i.i c.index.result.now lt))

pub returns-clause-stands : goal.returns-clause-stands
returns-clause-stands c _ =
    stands_by c.args.haystack.now c.args.end c.args.self.now.bytes.items c.args.place c.requires.within
    (omega (arith, c.if-len-end.false, c.len.ensures, c.requires.ordered))
    (λ j lt. c.loop-i.invariant j (omega (arith, lt, c.loop-i-test.false, c.len-i-end.ensures)))
