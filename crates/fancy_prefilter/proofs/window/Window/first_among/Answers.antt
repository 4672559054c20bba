use Rattle.std.proofs.Common.{◌≡◌, ◌+◌, ap, arith, length}
use Rattle.fancy_bytes.specs.Rows.{StandsFrom}
use Rattle.fancy_prefilter.proofs.MarkLemmas.{bit_within, none_before}
use Rattle.fancy_prefilter.proofs.WindowLemmas.{stands_before, among}
use Rattle.fancy_prefilter.proofs.window.Window.first_among.Goals as goal

pub stands_at-requires : goal.stands_at-requires
stands_at-requires c =
    let inside = bit_within c.args.marks c.lowest-passed.result c.requires.marks.few c.lowest-passed.ensures.set in
    omega (arith, inside, c.requires.left, c.requires.within)

pub returns-then-stands_at : goal.returns-then-stands_at
returns-then-stands_at c =
    let sets = c.args.self.now in
    let haystack = c.args.haystack.now in
    let passed = c.lowest-passed.result in
    let inside = bit_within c.args.marks passed c.requires.marks.few c.lowest-passed.ensures.set in (
      omega arith,
      omega (arith, inside, c.requires.inside),
      stands_before sets haystack c.args.end (c.args.place + passed) (omega (arith, inside, c.requires.left)) (c.stands_at.ensures.0 c.if-stands_at.true),
      none_before (λ p. StandsFrom sets haystack c.args.end 0 p) c.args.place c.args.marks c.requires.marks passed inside c.lowest-passed.ensures.first,
    )

pub returns : goal.returns
returns c =
    let sets = c.args.self.now in
    let haystack = c.args.haystack.now in
    let passed = c.lowest-passed.result in
    let inside = bit_within c.args.marks passed c.requires.marks.few c.lowest-passed.ensures.set in
    let told = rw c.self.view_is at c.self.invariant in
    let size : c.len.result ≡ length sets = omega (arith, c.len.ensures, ap length c.self.view_is) in
    among sets haystack c.args.end c.args.place (c.args.place + passed) told.0 c.requires.left (omega arith)
    (none_before (λ p. StandsFrom sets haystack c.args.end 0 p) c.args.place c.args.marks c.requires.marks passed inside c.lowest-passed.ensures.first)
    (c.args.place + (c.len.result + 31)) c.seen_by_skips.result (omega (arith, size)) c.seen_by_skips.ensures
