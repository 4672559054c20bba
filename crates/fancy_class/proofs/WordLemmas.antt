-- What follows where a text begins with a word, or with one of some characters.
use Rattle.std.proofs.Common.{◌≡◌, ℕ, ◌==◌, ◌||◌, Bool, true, false, if◌then◌else◌, Some, None, List, [], ◌∷◌, ◌++◌, take, drop, length, nat_eq, refl, sym, ap, ◌∙◌, arith}
use Rattle.std.specs.List.{starts_with}
use Rattle.std.specs.Cmp.Lexicographic.{same_text}
use Rattle.std.proofs.lemmas.Bool.Decides.{nat_tests}
use Rattle.std.proofs.lemmas.List.{take-append-drop}
use Rattle.fancy_tree.specs.Text.{Text}
use Rattle.fancy_class.specs.Words.{is_at_any, by_word}

pub begins_with : (w t : Text) → starts_with nat_eq t w ≡ true → t ≡ w ++ drop (length w) t
begins_with w t h = sym (take-append-drop (length w) t) ∙ ap (λ l. l ++ drop (length w) t) (sym (same_text w (take (length w) t) (sym h)))

pub first_is : (c : ℕ) (t : Text) → is_at_any (c ∷ []) t ≡ true → t ≡ c ∷ drop 1 t
first_is c [] h = cc
first_is c (x ∷ t) h = ap (λ y. y ∷ t) (sym (same_char (c == x) h refl))
  where
    same_char : (b : Bool) → (b || false) ≡ true → (c == x) ≡ b → c ≡ x
    same_char true h e = grind (arith, nat_tests)
    same_char false h e = cc

-- where none of the first words stands, it is one of the others
pub by_later_word : {X : Type 0} (first others : List (Text × X)) (t : Text) → by_word first t ≡ None → by_word (first ++ others) t ≡ by_word others t
by_later_word [] others t h = refl
by_later_word ((word, x) ∷ first) others t h = by_this (starts_with nat_eq t word) (by_later_word first others t) h
  where
    by_this : (b : Bool) → (by_word first t ≡ None → by_word (first ++ others) t ≡ by_word others t) → (if b then Some (x, drop (length word) t) else by_word first t) ≡ None → (if b then Some (x, drop (length word) t) else by_word (first ++ others) t) ≡ by_word others t
    by_this true later e = cc
    by_this false later e = later e

-- where one of the first words stands, it is that one
pub by_earlier_word : {X : Type 0} (first others : List (Text × X)) (t : Text) (found : X × Text) → by_word first t ≡ Some found → by_word (first ++ others) t ≡ Some found
by_earlier_word [] others t found h = cc
by_earlier_word ((word, x) ∷ first) others t found h = by_this (starts_with nat_eq t word) (by_earlier_word first others t found) h
  where
    by_this : (b : Bool) → (by_word first t ≡ Some found → by_word (first ++ others) t ≡ Some found) → (if b then Some (x, drop (length word) t) else by_word first t) ≡ Some found → (if b then Some (x, drop (length word) t) else by_word (first ++ others) t) ≡ Some found
    by_this true earlier e = e
    by_this false earlier e = earlier e
