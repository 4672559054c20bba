-- A fact of states that each turn keeps is kept by repeats of every kind.
use Rattle.std.proofs.Common.{ℕ, zero, suc, ◌-◌, ◌==◌, Bool, List, [], ◌∷◌, Option, Some, None}
use Rattle.fancy_meaning.specs.Context.{State}
use Rattle.fancy_meaning.specs.Events.{Event, mark, return, outcome, Walk, stay, bind, holding, copies, optionals, turns, star}
use Rattle.fancy_meaning.specs.Trace.{repeated}
use Rattle.fancy_meaning.specs.Forward.{EachOutcome}
use Rattle.fancy_meaning.proofs.EventLemmas.{EachOutcome-bind, EachOutcome-prefer, EachOutcome-only_if, EachOutcome-if}

-- where P holds of the start, it holds of each outcome
abbrev pub Retains : (State → Type 0) → Walk → Type 0
Retains P walk = (s : State) → P s → EachOutcome P (walk s)

pub EachOutcome_both : (P Q : State → Type 0) (es : List Event) → EachOutcome P es → EachOutcome Q es → EachOutcome (λ s. P s × Q s) es
EachOutcome_both P Q [] a b = tt
EachOutcome_both P Q (mark ∷ es) a b = EachOutcome_both P Q es a b
EachOutcome_both P Q (return ∷ es) a b = EachOutcome_both P Q es a b
EachOutcome_both P Q (outcome s ∷ es) a b = ((a.0, b.0), EachOutcome_both P Q es a.1 b.1)

module _ (P : State → Type 0) where
  pub Retains-stay : Retains P stay
  Retains-stay s h = (h, tt)

  pub Retains-holding : (b : Bool) → Retains P (holding b)
  Retains-holding b s h = EachOutcome-only_if P b _ (λ e. (h, tt))

  pub Retains-bind : (walk next : Walk) → Retains P walk → Retains P next → Retains P (λ s. bind (walk s) next)
  Retains-bind walk next here later s h = EachOutcome-bind P P (walk s) next (here s h) later

  Retains-copies : (n : ℕ) (body rest : Walk) → Retains P body → Retains P rest → Retains P (copies n body rest)
  Retains-copies zero body rest a b s h = b s h
  Retains-copies (suc n) body rest a b s h = Retains-bind body (copies n body rest) a (Retains-copies n body rest a b) s h

  Retains-optionals : (greedy : Bool) (n : ℕ) (body : Walk) → Retains P body → Retains P (optionals greedy n body)
  Retains-optionals greedy zero body a s h = Retains-stay s h
  Retains-optionals greedy (suc n) body a s h =
      EachOutcome-prefer P greedy _ _ (Retains-bind body (optionals greedy n body) a (Retains-optionals greedy n body a) s h) (Retains-stay s h)

  Retains-turns : (greedy : Bool) (n : ℕ) (body : Walk) → Retains P body → Retains P (turns greedy n body)
  Retains-turns greedy zero body a s h = tt
  Retains-turns greedy (suc n) body a s h =
      EachOutcome-prefer P greedy _ _
      (EachOutcome-bind P P (body s) _ (a s h)
      (λ t b. EachOutcome-if P (t.place == s.place) _ _ tt (Retains-turns greedy n body a t b)))
      (Retains-stay s h)

  pub Retains-repeated : (greedy : Bool) (limit low : ℕ) (high : Option ℕ) (body : Walk) → Retains P body → Retains P (repeated greedy limit low high body)
  Retains-repeated greedy limit low None body a =
      Retains-copies low body (star greedy limit body) a (λ s h. Retains-turns greedy (suc (limit - s.place)) body a s h)
  Retains-repeated greedy limit low (Some high) body a =
      Retains-copies low body (optionals greedy (high - low) body) a (Retains-optionals greedy (high - low) body a)
