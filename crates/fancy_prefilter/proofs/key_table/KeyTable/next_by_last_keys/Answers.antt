use Rattle.std.proofs.Common.{◌≡◌, ℕ, ◌+◌, inl, inr, refl, sym, ap, subst, ◌∙◌, arith, slice_index}
use Rattle.std.proofs.lemmas.Bool.{cases_lt}
use Rattle.fancy_prefilter.specs.Keys.{key_at}
use Rattle.fancy_prefilter.specs.KeyTables.{HasAt, NoneMayStand}
use Rattle.fancy_prefilter.proofs.KeyLemmas.{window_key}
use Rattle.fancy_prefilter.proofs.key_table.KeyTable.next_by_last_keys.Goals as goal

pub loop-place-preserved : goal.loop-place-preserved
loop-place-preserved c =
    let haystack = c.args.haystack.now in
    let place : ℕ = c.loop-place.place in
    let key : c.mixed.result ≡ key_at c.args.self.now.width haystack place =
    window_key haystack place c.loop-place.last.one c.loop-place.last.two c.loop-place.last.three c.loop-place.invariant.are (slice_index haystack (place + 3)) c.mixed.result refl
    (c.mixed.ensures.mixed (slice_index haystack (place + 3)) (sym c.class_of-class.ensures))
    ∙ ap (λ (width : ℕ). key_at width haystack place) (sym c.requires.width) in
    let bare : NoneMayStand c.args.self.now haystack c.args.end place =
    (λ number may. c.is_free.ensures c.if-not-is_free.false number (subst (λ (k : ℕ). HasAt c.args.self.now k number) (sym key) may.1)) in
    record {
      are = c.keys_after-last.ensures.are haystack place (sym c.class_of-class.ensures) c.loop-place.invariant.are;
      one = c.keys_after-last.ensures.one;
      two = c.keys_after-last.ensures.two;
      three = c.keys_after-last.ensures.three;
      none = λ k low lt.
          elim (cases_lt k place) [
            | inl before ↦ c.loop-place.invariant.none k low before
            | inr ge ↦
                let same : place ≡ k = omega (arith, lt, ge) in
                subst (λ (p : ℕ). NoneMayStand c.args.self.now haystack c.args.end p) same bare
          ];
    }

pub returns : goal.returns
returns c k low number may =
    elim (cases_lt k c.loop-place.place) [
      | inl before ↦ c.loop-place.invariant.none k low before number may
      | inr ge ↦ omega (arith, may.0, ge, c.requires.width, c.loop-place-test.false)
    ]
