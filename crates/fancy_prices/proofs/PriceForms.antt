-- What is told of prices.
use Rattle.std.proofs.Common.{◌≡◌, ℕ, suc, ◌+◌, Bool, true, Option, IfSome, sym, subst}
use Rattle.std.proofs.lemmas.Option.{IfSome_then}
use Rattle.fancy_prices.specs.declared.price.Price.{Price}
use Rattle.fancy_prices.specs.Prices.{IsNothing}

module _ (F : ℕ → ℕ → Type 0) where
  pub same_price : (p : Price) (m r : ℕ) → p.marks ≡ m → p.returns ≡ r → F m r → F p.marks p.returns
  same_price p m r marks returns h = subst (λ (k : ℕ). F k p.returns) (sym marks) (subst (F m) (sym returns) h)

  pub from_nothing : (p : Price) → IsNothing p → F p.marks p.returns → F 0 0
  from_nothing p is h = subst (λ (k : ℕ). F k 0) is.0 (subst (F p.marks) is.1 h)

  -- nothing, if that is told
  pub told_nothing : (o : Option Price) (told : Bool) → IfSome o (λ p. IsNothing p × (told ≡ true)) → (told ≡ true → F 0 0) → IfSome o (λ p. F p.marks p.returns)
  told_nothing o told nothing h = IfSome_then o nothing (λ p is. same_price p 0 0 is.0.0 is.0.1 (h is.1))

  -- nothing, where what follows costs nothing
  pub still_nothing : (G : ℕ → ℕ → Type 0) (o : Option Price) (a : Price) → IfSome o (λ p. IsNothing a × IsNothing p) → G a.marks a.returns → (G 0 0 → F 0 0)
      → IfSome o (λ p. F p.marks p.returns)
  still_nothing G o a nothing g h = IfSome_then o nothing (λ p is. same_price p 0 0 is.1.0 is.1.1 (h (nothing_of a is.0 g))) where
    nothing_of : (a : Price) → IsNothing a → G a.marks a.returns → G 0 0
    nothing_of a is g = subst (λ (k : ℕ). G k 0) is.0 (subst (G a.marks) is.1 g)

  -- that of a choice
  pub chosen : (o : Option Price) (a b : Price) → IfSome o (λ p. (p.marks ≡ suc (a.marks + b.marks)) × (p.returns ≡ a.returns + suc b.returns))
      → F (suc (a.marks + b.marks)) (a.returns + suc b.returns) → IfSome o (λ p. F p.marks p.returns)
  chosen o a b is h = IfSome_then o is (λ p e. same_price p (suc (a.marks + b.marks)) (a.returns + suc b.returns) e.0 e.1 h)
