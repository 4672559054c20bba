use Rattle.std.proofs.Common.{◌≡◌, ℕ, inl, inr, subst, arith}
use Rattle.std.proofs.lemmas.Bool.{cases_lt}
use Rattle.fancy_prefilter.specs.KeyTables.{NoneMayStand}
use Rattle.fancy_prefilter.proofs.key_table.KeyTable.next_by_windows.Goals as goal

pub loop-place-preserved : goal.loop-place-preserved
loop-place-preserved c = record {
  passed = omega (arith, c.loop-place.invariant.passed);
  none = λ k low lt.
      elim (cases_lt k c.loop-place.place) [
        | inl before ↦ c.loop-place.invariant.none k low before
        | inr ge ↦
            let same : c.loop-place.place ≡ k = omega (arith, lt, ge) in
            subst (λ (p : ℕ). NoneMayStand c.args.self.now c.args.haystack.now c.args.end p) same (c.is_bare.ensures c.if-not-is_bare.false c.args.end)
      ];
}

pub returns-else-self-end : goal.returns-else-self-end
returns-else-self-end c k low number may =
    elim (cases_lt k c.loop-place.place) [
      | inl before ↦ c.loop-place.invariant.none k low before number may
      | inr ge ↦ omega (arith, may.0, ge, c.if-self-end.false)
    ]

pub returns-after-loop-place : goal.returns-after-loop-place
returns-after-loop-place c k low number may =
    elim (cases_lt k c.loop-place.place) [
      | inl before ↦ c.loop-place.invariant.none k low before number may
      | inr ge ↦ omega (arith, may.0, ge, c.loop-place-test.false, c.args.self.now.wide)
    ]
