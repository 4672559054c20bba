-- The ways at one place, in order of preference, and where the first accepted outcome of them ends.
use Rattle.std.specs.Prelude.{◌≡◌, ℕ, suc, ◌<◌, ◌⊎◌, Bool, true, false, List, [], ◌∷◌, Option, None, Some, is_some, slice_index_or}
use Rattle.std.specs.Option.{option_or}
use Rattle.fancy_code.specs.Instructions.{Instruction}
use Rattle.fancy_code.specs.Run.{instr_at}
use Rattle.fancy_alphabet.specs.Effects.{Seen, effect_of}
use Rattle.fancy_states.specs.declared.way.Way.{Way}
use Rattle.fancy_alphabet.specs.declared.effect.Effect.{Effect}
use Rattle.fancy_alphabet.specs.declared.effect.Effect.TheVariants as does

-- from an instruction on, where the first accepted outcome ends, at one place
abbrev pub Ends : Type 0
Ends = ℕ → Option ℕ

abbrev pub tagged : ℕ → Option ℕ → Option (ℕ × ℕ)
tagged from None = None
tagged from (Some e) = Some (from, e)

-- the same of a way, with the number of the way that it comes from
abbrev pub way_end : Ends → Way → Option (ℕ × ℕ)
way_end ends w = tagged w.from (ends w.at)

-- of the first way that has an end
abbrev pub first_end : Ends → List Way → Option (ℕ × ℕ)
first_end ends [] = None
first_end ends (w ∷ ws) = option_or (way_end ends w) (first_end ends ws)

-- a match that ends here
abbrev pub match_end : Option ℕ → ℕ → Option (ℕ × ℕ)
match_end None here = None
match_end (Some from) here = Some (from, here)

abbrev pub AllKnown : (ℕ → Bool) → List Way → Type 0
AllKnown known [] = Unit {0}
AllKnown known (w ∷ ws) = (known w.at ≡ true) × AllKnown known ws

-- how many instructions are marked
abbrev pub marked : List Bool → ℕ
marked [] = 0
marked (true ∷ marks) = suc (marked marks)
marked (false ∷ marks) = marked marks

-- `ends` at a place, and `later` after the item that is read there
module _ (ends later : Ends) (known beyond : ℕ → Bool) (rank : ℕ → ℕ) where
  -- what an instruction of this effect says of the ends, where the ranks fall along each way that reads nothing
  abbrev pub Obeys : Effect → ℕ → ℕ → Type 0
  Obeys does.Ends here q = ends q ≡ Some here
  Obeys does.Fails here q = ends q ≡ None
  Obeys (does.Reads next) here q = (beyond next ≡ true) × (ends q ≡ later next)
  Obeys (does.Moves next) here q = (known next ≡ true) × (ends q ≡ ends next) × (rank next < rank q)
  Obeys (does.Splits a b) here q =
      (known a ≡ true) × (known b ≡ true) × (ends q ≡ option_or (ends a) (ends b)) × (rank a < rank q) × (rank b < rank q)

  abbrev pub HasEnd : ℕ → Type 0
  HasEnd q = is_some (ends q) ≡ true

  -- some way of these has an end, and it and those before it rank below r
  abbrev pub Below : ℕ → List Way → Type 0
  Below r [] = ⊥
  Below r (w ∷ ws) = (rank w.at < r) × (HasEnd w.at ⊎ Below r ws)

  -- a marked instruction that has an end is answered for by a way that is still to be followed
  abbrev pub Covers : List Bool → List Way → Type 0
  Covers marks ws = (q : ℕ) → slice_index_or marks q false ≡ true → HasEnd q → Below (rank q) ws

  -- What is left to follow, where `next` was reached after the item: together they have the end that is looked for.
  pub record Closing (goal : Option (ℕ × ℕ)) (marks : List Bool) (next stack : List Way) : Type 0 where
    pub all : AllKnown known stack
    pub reached : AllKnown beyond next
    pub answer : option_or (first_end later next) (first_end ends stack) ≡ goal
    pub covers : first_end later next ≡ None → Covers marks stack

  -- after a way was followed; where it ended with an outcome, none after it counts
  abbrev pub Visited : Bool → ℕ → ℕ → Option (ℕ × ℕ) → List Bool → List Way → List Way → Type 0
  Visited false here from goal marks next stack = Closing goal marks next stack
  Visited true here from goal marks next stack = AllKnown beyond next × (option_or (first_end later next) (Some (from, here)) ≡ goal)

-- The ends are those of the code at the place `here`, where a match may end and `u` is seen.
abbrev pub Solves : List Instruction → Seen → ℕ → Ends → Ends → (ℕ → Bool) → (ℕ → Bool) → (ℕ → ℕ) → Type 0
Solves code u here ends later known beyond rank =
    (q : ℕ) → known q ≡ true → Obeys ends later known beyond rank (effect_of u (instr_at code q)) here q
