-- Operators on sets, one after another, and what they make of a set.
use Rattle.std.specs.Prelude.{◌≡◌, ℕ, true, nat_le, List, map}
use Rattle.fancy_tree.specs.Members.{Members, members}
use Rattle.fancy_tree.specs.declared.operation.Operation.{Operation}
use Rattle.fancy_class.specs.declared.chain.Chain.{Chain}
use Rattle.fancy_class.specs.declared.chain.Change.{Change}
use Rattle.fancy_class.specs.declared.chain.Step.{Step}
use Rattle.fancy_class.specs.ClassGrammar.{none_of, combine_all}

-- an operator, and the members of the set after it
abbrev pub step_of : Step → Operation × Members
step_of s = (s.how, members s.right)

abbrev pub steps_of : List Step → List (Operation × Members)
steps_of = map step_of

-- the members that the operators of a chain give
abbrev pub chain_members : Chain → Members
chain_members c = combine_all (members c.set) (steps_of c.steps.items)

-- This change is what the steps make of a set: of a member, and of a number that is none.
abbrev pub Changes : Change → List (Operation × Members) → Type 0
Changes change steps = (c : ℕ) →
    (members change.gained c ≡ combine_all none_of steps c) × (nat_le c 0x10_FFFF ≡ true → members change.kept c ≡ combine_all (λ d. true) steps c)
