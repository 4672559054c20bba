use Rattle.std.proofs.Common.{arith, ◌<◌}
use Rattle.std.proofs.lemmas.Str.{length-encode}
use Rattle.fancy_bytes.proofs.ItemBytesLemmas.{ascii_encoding, one_byte}
use Rattle.fancy_bytes.proofs.items.add_characters.Goals as goal

pub returns-then-sizes-le1-clause-has : goal.returns-then-sizes-le1-clause-has
returns-then-sizes-le1-clause-has c d is item enough few =
    let small : d < 128 = one_byte d (omega (arith, few, c.if-sizes-le1.true, length-encode d)) in
    ascii_encoding c.add_bytes.new.sets.items c.args.from c.args.exact d small
    (λ j from same lt b. c.add_bytes.ensures.has j d from same lt b (c.ascii_of.ensures d small is))
