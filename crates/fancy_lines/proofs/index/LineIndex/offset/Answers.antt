use Rattle.std.proofs.Common.{◌≡◌, ℕ, ◌+◌, subst, arith, refl}
use Rattle.fancy_lines.proofs.LineLemmas.{sum_is, row_bounded, same_row, made_place}
use Rattle.fancy_lines.specs.LineColumns.{IsAt}
use Rattle.fancy_lines.proofs.index.LineIndex.offset.Goals as goal

pub returns-then-place-len-clause-none : goal.returns-then-place-len-clause-none
returns-then-place-len-clause-none c _ o at =
    let index = c.args.self.now in
    let h = row_bounded index.text.now index.starts.items o c.args.place.line c.args.place.column index.whole at in
    absurd (omega (arith, h))

pub returns-then-place-saturating_sub-clause-none : goal.returns-then-place-saturating_sub-clause-none
returns-then-place-saturating_sub-clause-none c _ o at =
    let index = c.args.self.now in
    let h = sum_is index.text.now index.starts.items o c.args.place.line c.args.place.column index.whole at in
    let i = at.inside in
    let s = c.start_of-start.ensures in
    absurd (omega (arith, h, i, s))

pub returns-in-Some-clause-at : goal.returns-in-Some-clause-at
returns-in-Some-clause-at c =
    let index = c.args.self.now in
    made_place index.text.now index.starts.items (c.start_of-start.result + c.args.place.column) c.args.place.line c.in-Some.found.line c.args.place.column c.in-Some.found.column
    c.start_of-start.result index.whole c.in-Some.ensures.at c.if-found-place.true c.start_of-start.ensures refl

pub returns-in_default-clause-none : goal.returns-in_default-clause-none
returns-in_default-clause-none c _ o at =
    let index = c.args.self.now in
    let h = sum_is index.text.now index.starts.items o c.args.place.line c.args.place.column index.whole at in
    let s = c.start_of-start.ensures in
    let e : o ≡ c.start_of-start.result + c.args.place.column = omega (arith, h, s) in
    let here = subst (λ (n : ℕ). IsAt index.text.now n c.args.place.line c.args.place.column) e at in
    let same = same_row index.text.now (c.start_of-start.result + c.args.place.column) c.in-Some.found.line c.in-Some.found.column c.args.place.line c.args.place.column c.in-Some.ensures.at here in
    c.if-found-place.false same

pub returns-in_default-2-clause-none : goal.returns-in_default-2-clause-none
returns-in_default-2-clause-none c _ o at =
    let index = c.args.self.now in
    let h = sum_is index.text.now index.starts.items o c.args.place.line c.args.place.column index.whole at in
    let i = at.inside in
    let s = c.start_of-start.ensures in
    c.in_default.ensures.none refl (omega (arith, h, i, s))
