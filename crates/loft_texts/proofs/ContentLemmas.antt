use Rattle.std.specs.Prelude.{◌≡◌, ◌++◌, ℕ, List, take, drop}
use Rattle.std.proofs.lemmas.List.{take-append-drop}

-- what stands before a place and what follows it are the whole
pub parts_are_whole : (i : ℕ) (xs : List ℕ) → take i xs ++ drop i xs ≡ xs
parts_are_whole i xs = take-append-drop i xs
