use Rattle.std.proofs.Common.{◌+◌, ◌-◌, ◌<◌, ◌∙◌, ℕ, length, slice_index, sym, arith, true≢false}
use Rattle.std.proofs.lemmas.Bool.{eq-eqb}
use Rattle.std.proofs.lemmas.Grind.{get_or_default_zero}
use Rattle.fancy_prefilter.proofs.StandsLemmas.{byte_of}
use Rattle.fancy_prefilter.proofs.text.Text.ends_at.Goals as goal

pub returns : goal.returns
returns c differs end stands =
    let text = c.args.self.now.bytes.items in
    let last : ℕ = c.len-len.result - 1 in
    let lt : last < length text = omega (arith, c.if-len-eq0.false, c.len-len.ensures) in
    let byte = byte_of c.args.haystack.now end text c.args.place last stands lt in
    true≢false
    (sym (eq-eqb (slice_index c.args.haystack.now (c.args.place + last)) c.index.result.now
    (byte.there ∙ sym (c.index.ensures ∙ get_or_default_zero text last c.index.result.now lt))) ∙ differs)
