use Rattle.std.proofs.Common.{◌≡◌, ◌+◌, ◌-◌, ◌<◌, ap, subst, sym, ◌∙◌, arith, length, slice_index, ℕ}
use Rattle.std.proofs.lemmas.Grind.{get_or_default_zero}
use Rattle.fancy_prefilter.specs.Windows.{IsSkip}
use Rattle.fancy_prefilter.proofs.WindowLemmas.{none_skipped}
use Rattle.fancy_prefilter.proofs.window.Window.skip_at.Goals as goal

pub returns-then-skip-passed-clause-none : goal.returns-then-skip-passed-clause-none
returns-then-skip-passed-clause-none c end k low high =
    let sets = c.args.self.now in
    let told = rw c.self.view_is at c.self.invariant in
    let size : c.len-width.result ≡ length sets = omega (arith, c.len-width.ensures, ap length c.self.view_is) in
    let at : ℕ = c.len-width.result - 1 - c.loop-passed.passed in
    let byte : ℕ = slice_index c.args.haystack.now (c.args.place + at) in
    let lt : byte < 256 = omega (arith, c.type_inv.haystack (c.args.place + at)) in
    let read : c.index.result.now ≡ slice_index c.self.inside.skips.items byte =
    c.index.ensures ∙ get_or_default_zero c.self.inside.skips.items byte c.index.result.now (omega (arith, lt, told.1.all)) in
    let is : IsSkip sets byte c.index.result.now = subst (IsSkip sets byte) (sym read) (told.1.each byte lt) in
    none_skipped sets c.args.haystack.now end c.args.place at c.index.result.now (omega (arith, size, c.loop-passed-test.true)) (omega (arith, size, c.loop-passed-test.true, c.if-skip-passed.true)) is
    k low (omega (arith, high, size, c.loop-passed-test.true, c.if-skip-passed.true, is.within))

pub returns-then-skip-passed-clause-within : goal.returns-then-skip-passed-clause-within
returns-then-skip-passed-clause-within c =
    let told = rw c.self.view_is at c.self.invariant in
    let byte : ℕ = slice_index c.args.haystack.now (c.args.place + (c.len-width.result - 1 - c.loop-passed.passed)) in
    let lt : byte < 256 = omega (arith, c.type_inv.haystack (c.args.place + (c.len-width.result - 1 - c.loop-passed.passed))) in
    let read : c.index.result.now ≡ slice_index c.self.inside.skips.items byte =
    c.index.ensures ∙ get_or_default_zero c.self.inside.skips.items byte c.index.result.now (omega (arith, lt, told.1.all)) in
    omega (arith, read, (told.1.each byte lt).within)
