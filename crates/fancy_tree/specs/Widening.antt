-- What flag `i` adds to a set.
use Rattle.std.specs.Prelude.{◌≡◌, ℕ, Bool, true, ◌&&◌, ◌||◌, ◌==◌, List, ◌++◌, zip, codes}
use Rattle.std.specs.List.{list_any}
use Rattle.unicode.specs.CaseFolding.{simple_fold, fold_pairs}
use Rattle.fancy_tree.specs.declared.tree.Meaning.{Meaning}
use Rattle.fancy_tree.specs.declared.tree.Meaning.TheVariants.{Unicode, Bytes, AsciiText}

abbrev pub pairs_to : (ℕ → Bool) → ℕ → ℕ × ℕ → Bool
pairs_to p c q = (q.0 == c) && p q.1

-- some pair leads from a member to the number
abbrev pub in_pairs : List (ℕ × ℕ) → (ℕ → Bool) → ℕ → Bool
in_pairs pairs p c = list_any (pairs_to p c) pairs

-- the number shares a simple folding with a member
abbrev pub SharesFolding : (ℕ → Bool) → ℕ → Type 0
SharesFolding p c = (d : ℕ) × (p d ≡ true) × (simple_fold c ≡ simple_fold d)

abbrev pub capitals : List ℕ
capitals = codes "ABCDEFGHIJKLMNOPQRSTUVWXYZ"

abbrev pub small_letters : List ℕ
small_letters = codes "abcdefghijklmnopqrstuvwxyz"

-- an ASCII letter and the other case of it
abbrev pub ascii_pairs : List (ℕ × ℕ)
ascii_pairs = zip capitals small_letters ++ zip small_letters capitals

-- what flag `i` makes of a set
abbrev pub case_closure : Meaning → (ℕ → Bool) → ℕ → Bool
case_closure Unicode p c = p c || in_pairs fold_pairs p c
case_closure Bytes p c = p c || in_pairs ascii_pairs p c
case_closure AsciiText p c = p c || in_pairs ascii_pairs p c
