use Rattle.std.proofs.Common.{◌≡◌, ◌∙◌, ◌<◌, ◌*◌, ◌-◌, ◌^◌, min, ℕ, List, None, get_or, length, vec_items, sym, ap, subst, arith}
use Rattle.std.proofs.lemmas.List.{get_or_default}
use Rattle.fancy_regex_c.specs.declared.plain.Span.{Span}
use Rattle.fancy_regex_c.specs.NextMatches.{width_by}
use Rattle.fancy_regex_c.specs.Searches.{crossing}
use Rattle.fancy_regex_c.proofs.MatchListLemmas.{span_of_row, no_span, looked_up}
use Rattle.fancy_regex_c.proofs.under_way.MatchList.span_at.Goals as goal

pub returns-then-number-width : goal.returns-then-number-width
returns-then-number-width c = λ fits.
    let items = vec_items c.args.self.now.spans in
    let w = width_by c.args.self.now.has_groups c.args.self.now.regex.value in
    let width : c.width-width.result ≡ w = c.width-width.ensures in
    let past = c.if-number-width.true in
    c.absent.ensures ∙ sym (no_span items c.args.index w c.args.number (crossing None) (omega (arith, past, width)))

pub returns-in-Some : goal.returns-in-Some
returns-in-Some c = λ fits.
    let items = vec_items c.args.self.now.spans in
    let w = width_by c.args.self.now.has_groups c.args.self.now.regex.value in
    let width : c.width-width.result ≡ w = c.width-width.ensures in
    let same : c.deref.result.now ≡ items = c.deref.ensures.value in
    let long = ap length same in
    let small = c.deref.type_inv.1 in
    let less = c.if-number-width.false in
    let inside : c.args.number < w = omega (arith, less, width) in
    let begins = subst (λ (n : ℕ). c.saturating_mul-first.result ≡ min (c.args.index * n) (2 ^ 64 - 1)) width c.saturating_mul-first.ensures in
    let there = looked_up items c.args.index w c.args.number c.saturating_add.result c.saturating_mul-first.result fits (omega (arith, small, long)) inside begins c.saturating_add.ensures in
    c.in-Some.ensures.lookup.1 ∙ (ap (λ (xs : List Span). get_or xs c.saturating_add.result c.in-Some.span.now) same ∙ (get_or_default items c.saturating_add.result c.in-Some.span.now (crossing None) there.1
    ∙ (ap (λ (k : ℕ). get_or items k (crossing None)) there.0 ∙ sym (span_of_row items c.args.index w c.args.number (crossing None) inside))))

pub returns-in-None : goal.returns-in-None
returns-in-None c = λ fits.
    let items = vec_items c.args.self.now.spans in
    let w = width_by c.args.self.now.has_groups c.args.self.now.regex.value in
    let width : c.width-width.result ≡ w = c.width-width.ensures in
    let long = ap length c.deref.ensures.value in
    let small = c.deref.type_inv.1 in
    let less = c.if-number-width.false in
    let begins = subst (λ (n : ℕ). c.saturating_mul-first.result ≡ min (c.args.index * n) (2 ^ 64 - 1)) width c.saturating_mul-first.ensures in
    let there = looked_up items c.args.index w c.args.number c.saturating_add.result c.saturating_mul-first.result fits (omega (arith, small, long)) (omega (arith, less, width)) begins c.saturating_add.ensures in
    let inside = there.1 in
    let past = c.in-None.ensures.lookup.3 in
    absurd (omega (arith, inside, past, long))
