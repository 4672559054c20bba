-- What is told of code holds in one way at most.
use Rattle.std.specs.Prelude.{◌≡◌, ℕ, suc, Bool, false, List, [], ◌∷◌, Option, Some, None}
use Rattle.std.proofs.Props.{props}
use mathlib.Core.HLevel.{is_prop→PathP}
use Rattle.fancy_tree.specs.declared.tree.Meaning.{Meaning}
use Rattle.fancy_code.specs.declared.code.Code.{Code}
use Rattle.fancy_meaning.specs.Context.{State}
use Rattle.fancy_meaning.specs.Events.{any}
use Rattle.fancy_code.specs.Instructions.{Instruction}
use Rattle.fancy_code.specs.Run.{Raw, Note, Stop, choice_opened, returned, fetched}
use Rattle.fancy_splits.specs.declared.choices.Onward.{Onward}
use Rattle.fancy_splits.specs.declared.choices.Onward.TheVariants as o
use Rattle.fancy_splits.specs.declared.denials.Sight.{Sight}
use Rattle.fancy_splits.specs.declared.denials.Sight.TheVariants.{Unclear, Finds, Misses as MissesBy}
use Rattle.fancy_splits.specs.declared.splits.Splits.{Splits}
use Rattle.fancy_splits.specs.declared.splits.ToldPart.{ToldPart}
use Rattle.fancy_splits.specs.declared.splits.ToldPart.TheVariants.{Loop, Choice, Atom, Denial}
use Rattle.fancy_splits.specs.declared.prices.Prices.{Prices}
use Rattle.fancy_splits.specs.Splits.{AreSplits, IsTold, Leads}
use Rattle.fancy_prices.specs.Prices.{Costs, Meets, MeetsIn, Misses, MissesIn}
use Rattle.fancy_splits.specs.Denials.{IsSight}
use Rattle.fancy_splits.specs.Told.{ArePrices}

one_less : (m k l : ℕ) → m ≡ suc k → m ≡ suc l → k ≡ l
one_less m k l e f = cc

-- what is so of one less is so in one way, if it is so of each number
less_once : (P : ℕ → Type 0) → ((k : ℕ) → IsProp (P k)) → (m : ℕ) → IsProp ((k : ℕ) × (m ≡ suc k) × P k)
less_once P once m = λ a b i.
    let p = one_less m a.0 b.0 a.1 b.1 in
    (p i, is_prop→PathP (λ j. m ≡ suc (p j)) (λ j. hlevel props) a.1 b.1 i, is_prop→PathP (λ j. P (p j)) (λ j. once (p j)) a.2 b.2 i)

both_once : (P Q : Type 0) → IsProp P → IsProp Q → IsProp (P × Q)
both_once P Q p q = λ a b i. (p a.0 b.0 i, q a.1 b.1 i)

module _ (wanted : State → Bool) where
  misses_once : (m r : ℕ) (w : List Raw) → IsProp (MissesIn wanted m r w)
  misses_once m r [] = hlevel props
  misses_once m r (Note choice_opened ∷ w) = less_once (λ k. MissesIn wanted k r w) (λ k. misses_once k r w) m
  misses_once m r (Note returned ∷ w) = less_once (λ k. MissesIn wanted m k w) (λ k. misses_once m k w) r
  misses_once m r (Note fetched ∷ w) = misses_once m r w
  misses_once m r (Stop q s v ∷ w) = both_once (wanted s ≡ false) (MissesIn wanted m r w) (hlevel props) (misses_once m r w)

  told_missed_once : (m r : ℕ) (o : Option (List Raw)) → IsProp (Misses wanted m r o)
  told_missed_once m r None = hlevel props
  told_missed_once m r (Some w) = misses_once m r w

  meets_once : (w : List Raw) → IsProp (MeetsIn wanted w)
  meets_once [] = hlevel props
  meets_once (Note choice_opened ∷ w) = hlevel props
  meets_once (Note returned ∷ w) = hlevel props
  meets_once (Note fetched ∷ w) = meets_once w
  meets_once (Stop q s v ∷ w) = hlevel props

  told_met_once : (o : Option (List Raw)) → IsProp (Meets wanted o)
  told_met_once None = hlevel props
  told_met_once (Some w) = meets_once w

costs_once : (m r : ℕ) (o : Option (List Raw)) → IsProp (Costs m r o)
costs_once = told_missed_once any

sight_once : (code : List Instruction) (meaning : Meaning) (behind : Bool) (q b : ℕ) (t : Sight) → IsProp (IsSight code meaning behind q b t)
sight_once code meaning behind q b Unclear = hlevel props
sight_once code meaning behind q b Finds = hlevel (props, told_met_once)
sight_once code meaning behind q b (MissesBy c) = hlevel (props, told_missed_once)

leads_once : (code : List Instruction) (meaning : Meaning) (b m r : ℕ) (ways : List ℕ) (o : Onward) (q : ℕ) → IsProp (Leads code meaning b m r ways o q)
leads_once code meaning b m r ways o.Ends q = hlevel (props, costs_once)
leads_once code meaning b m r ways (o.Goes to) q = hlevel props
leads_once code meaning b m r ways (o.Reads to) q = hlevel props

told_once : (code : List Instruction) (meaning : Meaning) (at : ℕ) (l : ToldPart) → IsProp (IsTold code meaning at l)
told_once code meaning at (Loop l) = hlevel (props, costs_once)
told_once code meaning at (Choice c) = hlevel (props, leads_once)
told_once code meaning at (Atom a) = hlevel props
told_once code meaning at (Denial l) = hlevel (props, sight_once)

pub splits_once : (l : Splits) (code : Code) → IsProp (AreSplits l code)
splits_once l code = hlevel (props, told_once)

pub prices_once : (p : Prices) (code : Code) → IsProp (ArePrices p code)
prices_once p code = hlevel (props, costs_once, splits_once)
