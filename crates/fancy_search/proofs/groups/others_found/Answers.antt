use Rattle.std.proofs.Common.{◌≡◌, ◌≤◌, ◌==◌, ◌∙◌, ◌++◌, ◌∷◌, [], ℕ, Bool, true, false, Some, if◌then◌else◌, refl, sym, ap, ap₂, arith, eqb-true, subst}
use Rattle.std.proofs.lemmas.List.FromFn.{map-range_with_len_more}
use Rattle.fancy_meaning.specs.Context.{group_span}
use Rattle.fancy_meaning.specs.Search.{Answer, span_of}
use Rattle.fancy_search.specs.Groups.{span_of_group, spans_of}
use Rattle.fancy_search.specs.Cached.{found_at, found_span}
use Rattle.fancy_search.proofs.groups.others_found.Goals as goal

group_past_zero : (f : Answer) (number : ℕ) → 1 ≤ number → group_span f.state number ≡ span_of_group f number
group_past_zero f number h = at (number == 0) refl where
  at : (b : Bool) → (number == 0) ≡ b → group_span f.state number ≡ (if b then Some (span_of f) else group_span f.state number)
  at true e = let zero = eqb-true number 0 e in absurd (omega (arith, h, zero))
  at false e = refl

pub loop-number-preserved : goal.loop-number-preserved
loop-number-preserved c = λ found.
    let f = found_at found c.args.cache.now in
    let number = c.loop-number.number in
    ap (λ xs. Some (span_of f) ∷ xs) c.in_ok-push.ensures.items
    ∙ ap₂ (λ xs x. xs ++ x ∷ []) (c.loop-number.invariant found) (c.group.ensures ∙ group_past_zero f number (omega arith))
    ∙ sym (map-range_with_len_more (span_of_group f) 0 number number (omega arith))

pub returns : goal.returns
returns c = λ found.
    let same : c.loop-number.number ≡ c.args.count = omega (arith, c.loop-number-test.false, c.loop-number.auto.number-end (omega (arith, c.requires.some))) in
    subst (λ (n : ℕ). Some (found_span found) ∷ c.loop-number.others.items ≡ spans_of n (found_at found c.args.cache.now)) same (c.loop-number.invariant found)
