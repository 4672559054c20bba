-- What is read of an atomic group round a loop of one item.
use Rattle.std.specs.Prelude.{◌≡◌, ℕ, zero, suc, ◌+◌, ◌^◌, ◌<◌, ◌≤◌, ◌⊎◌, true, false, List, Some}
use Rattle.fancy_tree.specs.Sets.{has}
use Rattle.fancy_meaning.specs.Context.{Context, State, moved_to, past_item}
use Rattle.fancy_code.specs.Code.{instrs_of}
use Rattle.fancy_code.specs.Instructions.{Instruction}
use Rattle.fancy_code.specs.Run.{Note, fetched, before, run}
use Rattle.fancy_prices.specs.Prices.{Costs}
use Rattle.fancy_splits.specs.declared.atoms.ToldAtom.{ToldAtom}
use Rattle.fancy_splits.specs.declared.splits.ToldSplit.{ToldSplit}
use Rattle.fancy_splits.specs.Splits.{IsNoted}
use Rattle.fancy_machine.specs.declared.atoms.Whole.{Whole}
use Rattle.fancy_machine.specs.declared.attempt.Attempt.{Attempt}
use Rattle.fancy_machine.specs.Attempt.{attempt_context}
use Rattle.fancy_trail.specs.Frames.{Spot}

-- n items of a set stand one after another, from p to q
abbrev pub AreMembers : Context → List ℕ → ℕ → ℕ → ℕ → Type 0
AreMembers x edges zero p q = p ≡ q
AreMembers x edges (suc n) p q = (m : ℕ) × (past_item x (has edges) p ≡ Some m) × AreMembers x edges n m q

-- no item of the set stands at p and ends by the limit
abbrev pub LacksMember : Context → List ℕ → ℕ → ℕ → Type 0
LacksMember x edges limit p = (q : ℕ) → past_item x (has edges) p ≡ Some q → limit < q

-- At p the code at `first` reads an item, which ends at q, and goes on there at `back`.
abbrev pub ReadsItem : Context → List Instruction → ℕ → ℕ → ℕ → ℕ → Type 0
ReadsItem x code first back p q =
    (p < q) × ((limit n : ℕ) (s : State) (v : List ℕ) → s.place ≡ p → q ≤ limit
    → run x limit code (suc n) first s v ≡ before (Note fetched) (run x limit code n back (moved_to s q) v))

-- it reads n items one after another, from p to q
abbrev pub ReadsItems : Context → List Instruction → ℕ → ℕ → ℕ → ℕ → ℕ → Type 0
ReadsItems x code first back zero p q = p ≡ q
ReadsItems x code first back (suc n) p q = (m : ℕ) × ReadsItem x code first back p m × ReadsItems x code first back n m q

-- it reads none at p by the limit
abbrev pub ReadsNone : Context → List Instruction → ℕ → ℕ → ℕ → Type 0
ReadsNone x code first limit p = (n : ℕ) (s : State) (v : List ℕ) → s.place ≡ p → Costs 0 0 (run x limit code n first s v)

-- the loop of the group begins at p: where the way stands, or past the item before it
abbrev pub ComesTo : Attempt → ToldAtom → Spot → ℕ → Type 0
ComesTo a t x p =
    ((t.leads ≡ false) × (p ≡ x.state.place))
    ⊎ ((t.leads ≡ true) × ReadsItem (attempt_context a) (instrs_of a.code.now) t.body t.head x.state.place p × (p ≤ x.limit))

-- The loop reads these items where the way stands, no further one stands after them, and what follows it stops at once.
pub record IsWhole (a : Attempt) (l : ToldSplit) (x : Spot) (w : Whole) : Type 0 where
  pub items : ReadsItems (attempt_context a) (instrs_of a.code.now) l.first x.at w.count x.state.place w.past
  pub inside : 0 < w.count → w.past ≤ x.limit
  pub short : w.count + 2 < 2 ^ 64
  pub none : ReadsNone (attempt_context a) (instrs_of a.code.now) l.first x.limit w.past
  pub stop : l.stop ≡ Some w.next

-- so it is of the loop that is noted for the instruction that comes next
abbrev pub ReadsAll : Attempt → Spot → Whole → Type 0
ReadsAll a x w = (l : ToldSplit) × IsNoted a.splits.now x.at l × IsWhole a l x w
