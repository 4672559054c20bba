-- The names of a regex stand on its groups after group 0.
use Rattle.std.proofs.Common.{◌≡◌, ℕ, ◌<◌, ◌≤◌, ◌==◌, Bool, true, false, List, [], ◌∷◌, Option, Some, None, IfSome, All, option_map, find, reverse, length, get_or, slice_get, cond, bytes_eq, refl, ap, ◌∙◌, arith}
use Rattle.std.proofs.Math.Logic.{∥∥₁_elim}
use Rattle.std.proofs.Props.{props}
use Rattle.std.proofs.lemmas.Bool.Decides.{nat_tests}
use Rattle.std.proofs.lemmas.List.Elements.{All-tail}
use Rattle.std.proofs.lemmas.List.FromFn.{get_or-map-range_with_len, length-map-range_with_len}
use Rattle.std.proofs.lemmas.List.Sorted.{All-permutation, IsPermutation-reverse}
use Rattle.std.proofs.lemmas.Option.{slice_get-get_or}
use Rattle.fancy_tree.specs.Text.{Text}
use Rattle.fancy_core.specs.declared.regex.Regex.{Regex}
use Rattle.fancy_core.specs.CaptureNames.{names_in, name_of_group, names_of_groups, StandsOnGroup}
use Rattle.fancy_core.specs.Regexes.{group_count_in}
use Rattle.fancy_search.proofs.RisingLemmas.{rising_within}

-- what is found in a list is one of its elements
found_within : {X : Type 0} (P : X → Type 0) (p : X → Bool) (xs : List X) → All P xs → IfSome (find p xs) P
found_within P p [] all = tt
found_within {X} P p (x ∷ xs) all = go (p x) (found_within P p xs (All-tail P x xs all))
  where
    go : (b : Bool) → IfSome (find p xs) P → IfSome (cond b (Some x) (find p xs)) P
    go true later = all 0 x (omega arith)
    go false later = later

-- nothing is found where no element passes
nothing_found : {X : Type 0} (p : X → Bool) (xs : List X) → All (λ x. p x ≡ false) xs → find p xs ≡ None
nothing_found p [] all = refl
nothing_found {X} p (x ∷ xs) all = let here : p x ≡ false = all 0 x (omega arith) in rw here (nothing_found p xs (All-tail (λ x. p x ≡ false) x xs all))

-- every name of a regex stands on a group after group 0
module _ (r : Regex) where
  some_group : 1 ≤ group_count_in r
  some_group = ∥∥₁_elim r.program.compiled (hlevel props) (λ h. h.has_group_zero)

  numbered : All (λ (g : Text × ℕ). (1 ≤ g.1) × (g.1 < group_count_in r)) (reverse (names_in r))
  numbered =
      let all : All (λ (g : Text × ℕ). (1 ≤ g.1) × (g.1 < group_count_in r)) (names_in r) = ∥∥₁_elim r.program.compiled (hlevel props) (λ h. rising_within 1 (group_count_in r) (names_in r) h.rising) in
      All-permutation (λ (g : Text × ℕ). (1 ≤ g.1) × (g.1 < group_count_in r)) (names_in r) (reverse (names_in r)) (IsPermutation-reverse (names_in r)) all

  pub stands_on_group : (name : Text) → StandsOnGroup r name
  stands_on_group name = go (find (λ (g : Text × ℕ). bytes_eq g.0 name) (reverse (names_in r))) (found_within (λ (g : Text × ℕ). (1 ≤ g.1) × (g.1 < group_count_in r)) (λ (g : Text × ℕ). bytes_eq g.0 name) (reverse (names_in r)) numbered)
    where
      go : (found : Option (Text × ℕ)) → IfSome found (λ g. (1 ≤ g.1) × (g.1 < group_count_in r)) → IfSome (option_map (λ (g : Text × ℕ). g.1) found) (λ number. (0 < number) × (number < group_count_in r))
      go None h = tt
      go (Some g) h = (omega (arith, h.0), h.1)

  whole_match_nameless : name_of_group r 0 ≡ None
  whole_match_nameless = ap (option_map (λ (g : Text × ℕ). g.0)) (nothing_found (λ (g : Text × ℕ). g.1 == 0) (reverse (names_in r)) (λ k d below. let some : 1 ≤ (get_or (reverse (names_in r)) k d).1 = (numbered k d below).0 in grind (arith, nat_tests)))

  -- the names of groups are as many as there are groups, and the first is none
  pub as_many_as_groups : length (names_of_groups r) ≡ group_count_in r
  as_many_as_groups = length-map-range_with_len (name_of_group r) 0 (group_count_in r)

  pub first_is_none : slice_get (names_of_groups r) 0 ≡ Some None
  first_is_none =
      let inside : 0 < length (names_of_groups r) = omega (arith, as_many_as_groups, some_group) in
      slice_get-get_or (names_of_groups r) 0 None inside
      ∙ ap Some (get_or-map-range_with_len (name_of_group r) 0 (group_count_in r) 0 0 None some_group (omega arith) ∙ whole_match_nameless)
