use Rattle.std.proofs.Common.{◌≡◌, ◌+◌, ◌/◌, ◌≤◌, ◌⊎◌, List, ℕ, inl, inr, length, ap, subst, sym, arith}
use Rattle.std.proofs.lemmas.List.{length-drop}
use Rattle.std.proofs.lemmas.Bool.{cases_lt}
use Rattle.fancy_runner.specs.Table.{with_gone, bits_of, IsForgotten}
use Rattle.fancy_runner.proofs.TableLemmas.{length-bits_of, forgotten}
use Rattle.fancy_runner.proofs.table.Table.forget.Goals as goal

pub invariant_of-self : goal.invariant_of-self
invariant_of-self c =
    let before_in : c.args.before ≤ c.self.inside.pairs = omega (arith, length-bits_of (with_gone c.self.inside.gone c.self.inside.words.items) c.self.inside.pairs, ap length c.self.view_is, c.requires) in (
      omega (arith, c.self.invariant.0, c.drop_front.ensures.capacity),
      omega (
        arith,
        c.self.invariant.0,
        c.self.invariant.1,
        before_in,
        c.saturating_sub-count.ensures,
        c.drop_front.ensures.capacity,
        c.drop_front.new.words.ok.0,
        ap length c.drop_front.ensures.items,
        length-drop c.saturating_sub-count.result c.self.inside.words.items,
        c.self.inside.words.ok.0,
      ),
    )

pub returns : goal.returns
returns c =
    let counted : (c.saturating_sub-count.result ≡ 0) ⊎ (c.self.inside.gone + c.saturating_sub-count.result ≤ c.args.before / 64) =
    elim (cases_lt c.self.inside.gone (c.args.before / 64)) [
      | inl more ↦ inr (omega (arith, more, c.saturating_sub-count.ensures))
      | inr none ↦ inl (omega (arith, none, c.saturating_sub-count.ensures))
    ] in
    subst (λ (ws : List ℕ). IsForgotten c.args.self.now (bits_of (with_gone (c.self.inside.gone + c.saturating_sub-count.result) ws) c.self.inside.pairs) c.args.before) (sym c.drop_front.ensures.items)
    (forgotten c.self.inside.gone c.saturating_sub-count.result c.self.inside.words.items c.self.inside.pairs c.args.before c.args.self.now c.self.view_is counted)
