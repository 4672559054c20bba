use Rattle.std.proofs.Common.{◌≡◌, ◌<◌, length, slice_index, arith, refl, sym, ◌∙◌}
use Rattle.std.proofs.lemmas.Bool.Decides.{nat_tests}
use Rattle.std.proofs.lemmas.Option.{get_or_from_slice_get, slice_get_read}
use Rattle.fancy_prefilter.proofs.StandsLemmas.{byte_of}
use Rattle.fancy_prefilter.proofs.literal.Literal.may_hold.Goals as goal

pub returns-else-place-len : goal.returns-else-place-len
returns-else-place-len c other haystack end p there stands =
    let text = c.self.inside.text.items in
    let inside : c.args.place < length text = omega (arith, c.if-place-len.false, c.len.ensures) in
    let same : c.args.byte ≡ slice_index text c.args.place = sym there ∙ (byte_of haystack end text p c.args.place (rw (sym c.self.view_is) at stands) inside).there in
    let read : slice_index text c.args.place ≡ c.index.result.now =
    get_or_from_slice_get text c.args.place c.index.result.now 0 (slice_get_read text _ c.args.place c.index.result.now refl inside c.index.ensures) in
    absurd (grind (arith, nat_tests, same, read, other))
