use Rattle.std.proofs.Common.{◌+◌, sym, ◌∙◌, arith, true≢false}
use Rattle.fancy_bytes.specs.Rows.{StandsFrom}
use Rattle.fancy_prefilter.proofs.MarkLemmas.{bit_within, never_so, marks_without, none_before}
use Rattle.fancy_prefilter.proofs.WindowLemmas.{stands_before}
use Rattle.fancy_prefilter.proofs.window.Window.first_marked.Goals as goal

pub stands_at-requires : goal.stands_at-requires
stands_at-requires c =
    let inside = bit_within c.loop-left.left c.lowest-passed.result c.loop-left.invariant.few c.lowest-passed.ensures.set in
    omega (arith, inside, c.requires.left, c.requires.within)

pub returns-then-stands_at : goal.returns-then-stands_at
returns-then-stands_at c =
    let sets = c.args.self.now in
    let haystack = c.args.haystack.now in
    let passed = c.lowest-passed.result in
    let inside = bit_within c.loop-left.left passed c.loop-left.invariant.few c.lowest-passed.ensures.set in (
      omega arith,
      omega (arith, inside, c.requires.inside),
      stands_before sets haystack c.args.end (c.args.place + passed) (omega (arith, inside, c.requires.left)) (c.stands_at.ensures.0 c.if-stands_at.true),
      none_before (λ p. StandsFrom sets haystack c.args.end 0 p) c.args.place c.loop-left.left c.loop-left.invariant passed inside c.lowest-passed.ensures.first,
    )

pub loop-left-preserved : goal.loop-left-preserved
loop-left-preserved c =
    let sets = c.args.self.now in
    let haystack = c.args.haystack.now in
    let passed = c.lowest-passed.result in
    let inside = bit_within c.loop-left.left passed c.loop-left.invariant.few c.lowest-passed.ensures.set in
    marks_without (λ p. StandsFrom sets haystack c.args.end 0 p) c.args.place c.loop-left.left c.loop-left.invariant passed c.without-left.result
    (λ stands. true≢false (sym (c.stands_at.ensures.1 (λ j from within. (omega (arith, within), (stands j from within).1))) ∙ c.if-stands_at.false)) c.without-left.ensures.fewer
    c.without-left.ensures.kept

pub returns : goal.returns
returns c = never_so (λ p. StandsFrom c.args.self.now c.args.haystack.now c.args.end 0 p) c.args.place c.loop-left.left c.loop-left.invariant (omega (arith, c.loop-left-test.false))
