-- Names, as they are spelled and as they are read.
use Rattle.std.proofs.Common.{◌≡◌, ℕ, suc, ◌+◌, ◌<◌, ◌≤◌, ◌==◌, Bool, true, false, List, [], ◌∷◌, ◌++◌, Option, Some, option_map, find, reverse, chars, bytes_eq, encode_utf8_all, IsUtf8, length, take, drop, get_or, refl, sym, ap, ◌∙◌, append_assoc, append-nil, arith, cond, drop-cons, add-one, take-suc}
use Rattle.std.specs.List.{list_all}
use Rattle.std.proofs.lemmas.List.{length-take-le}
use Rattle.std.proofs.lemmas.Bool.Decides.{nat_tests}
use Rattle.std.proofs.Math.Seq.{drop-append_seam}
use Rattle.unicode.proofs.DerivedComputing.{ucd_derived}
use Rattle.unicode.proofs.CategoryComputing.{ucd_category}
use Rattle.unicode.specs.Binary.{is_alphabetic}
use Rattle.unicode.specs.GeneralCategory.{general_category}
use Rattle.fancy_tree.specs.Text.{Text}
use Rattle.fancy_tree.specs.declared.name.GroupName.{GroupName}
use Rattle.fancy_tree.specs.Names.{is_name_character, is_name, name_here, past_name, named_group, named_groups, last_named}
use Rattle.std.proofs.lemmas.List.{map_more, reverse-append}
use Rattle.std.proofs.lemmas.Str.{encodes-chars}
use Rattle.std.proofs.lemmas.Slice.Eq.{bytes_eq-Decides}
use Rattle.std.proofs.lemmas.Bool.Decides.{same_from_decides}
use Rattle.fancy_tree.proofs.Facts.{both_true, true_is_false, char_is}

-- `>` is no character of names
pub no_closing : is_name_character 62 ≡ false
unfolding is_name_character ucd_derived ucd_category is_alphabetic general_category
no_closing = refl

pub no_parenthesis : is_name_character 41 ≡ false
unfolding is_name_character ucd_derived ucd_category is_alphabetic general_category
no_parenthesis = refl

pub no_equals_sign : is_name_character 61 ≡ false
unfolding is_name_character ucd_derived ucd_category is_alphabetic general_category
no_equals_sign = refl

pub no_exclamation_mark : is_name_character 33 ≡ false
unfolding is_name_character ucd_derived ucd_category is_alphabetic general_category
no_exclamation_mark = refl

pub other_character : (d c : ℕ) → is_name_character d ≡ false → is_name_character c ≡ true → (d == c) ≡ false
other_character d c h e = go (d == c) refl
  where
    go : (b : Bool) → (d == c) ≡ b → b ≡ false
    go false f = refl
    go true f = absurd (true_is_false (sym e ∙ (ap is_name_character (char_is d c f) ∙ h)))

-- the row of characters of names, as far as a loop has come
pub row_step : (c : ℕ) (t : Text) → is_name_character c ≡ true → name_here (c ∷ t) ≡ c ∷ name_here t
row_step c t h = rw h refl

pub row_stop : (c : ℕ) (t : Text) → is_name_character c ≡ false → name_here (c ∷ t) ≡ []
row_stop c t h = rw h refl

module _ (t : Text) (i d c : ℕ) (below : i < length t) (is : c ≡ get_or t i d) (so_far : name_here t ≡ take i t ++ name_here (drop i t)) where
  here_is : drop i t ≡ c ∷ drop (suc i) t
  here_is = drop-cons t i d below ∙ ap (λ x. x ∷ drop (suc i) t) (sym is)

  pub row_goes_on : is_name_character c ≡ true → name_here t ≡ take (i + 1) t ++ name_here (drop (i + 1) t)
  row_goes_on h =
      so_far
      ∙ (ap (λ l. take i t ++ l) (ap name_here here_is ∙ row_step c (drop (suc i) t) h)
      ∙ (sym (append_assoc (take i t) (c ∷ []) (name_here (drop (suc i) t)))
      ∙ (ap (λ x. (take i t ++ x ∷ []) ++ name_here (drop (suc i) t)) is
      ∙ (ap (λ l. l ++ name_here (drop (suc i) t)) (sym (take-suc t i d below)) ∙ ap (λ n. take n t ++ name_here (drop n t)) (sym (add-one i))))))

  pub row_ends : is_name_character c ≡ false → name_here t ≡ take i t
  row_ends h = so_far ∙ (ap (λ l. take i t ++ l) (ap name_here here_is ∙ row_stop c (drop (suc i) t) h) ∙ append-nil (take i t))

-- what follows the row that ends at i
pub past_row : (t : Text) (i : ℕ) → i ≤ length t → name_here t ≡ take i t → past_name t ≡ drop i t
past_row t i h e = ap (λ n. drop n t) (ap (length {A = ℕ}) e ∙ length-take-le i t h)

-- a name that is closed, by a character that is none of names, is read
pub name_is_read : (d : ℕ) (n rest : Text) → is_name_character d ≡ false → is_name n ≡ true → name_here (n ++ d ∷ rest) ≡ n
name_is_read d [] rest e h = cc
name_is_read d (c ∷ n) rest e h = all_read (c ∷ n) h
  where
    all_read : (n : Text) → list_all is_name_character n ≡ true → name_here (n ++ d ∷ rest) ≡ n
    all_read [] h = row_stop d rest e
    all_read (c ∷ n) h = let b = both_true (is_name_character c) (list_all is_name_character n) h in row_step c (n ++ d ∷ rest) b.0 ∙ ap (λ l. c ∷ l) (all_read n b.1)

pub past_read : (d : ℕ) (n rest : Text) → is_name_character d ≡ false → is_name n ≡ true → past_name (n ++ d ∷ rest) ≡ d ∷ rest
past_read d n rest e h = ap (λ l. drop (length l) (n ++ d ∷ rest)) (name_is_read d n rest e h) ∙ drop-append_seam n (d ∷ rest)

pub name_is_some : (n : Text) → is_name n ≡ true → (length n == 0) ≡ false
name_is_some [] h = cc
name_is_some (c ∷ n) h = grind (arith, nat_tests)

-- a row that is read is a name, and what follows it follows in the text
all_in_row : (t : Text) → list_all is_name_character (name_here t) ≡ true
all_in_row [] = refl
all_in_row (c ∷ t) = go (is_name_character c) refl (all_in_row t)
  where
    go : (b : Bool) → is_name_character c ≡ b → list_all is_name_character (name_here t) ≡ true → list_all is_name_character (cond b (c ∷ name_here t) []) ≡ true
    go true e h = rw (e, h) refl
    go false e h = refl

pub row_is_name : (t : Text) → (length (name_here t) == 0) ≡ false → is_name (name_here t) ≡ true
row_is_name t h = go (name_here t) h (all_in_row t)
  where
    go : (n : Text) → (length n == 0) ≡ false → list_all is_name_character n ≡ true → is_name n ≡ true
    go [] h all = cc
    go (c ∷ n) h all = all

pub row_then_rest : (t : Text) → t ≡ name_here t ++ past_name t
row_then_rest [] = refl
row_then_rest (c ∷ t) = go (is_name_character c) (row_then_rest t)
  where
    go : (b : Bool) → t ≡ name_here t ++ past_name t → c ∷ t ≡ cond b (c ∷ name_here t) [] ++ drop (length (cond b (c ∷ name_here t) [])) (c ∷ t)
    go true h = ap (λ l. c ∷ l) h
    go false h = refl

-- two texts are equal where their characters are
pub same_characters : (a b : List ℕ) → IsUtf8 a → IsUtf8 b → bytes_eq a b ≡ bytes_eq (chars a) (chars b)
same_characters a b u v =
    let d = bytes_eq-Decides (chars a) (chars b) in
    same_from_decides {P = a ≡ b} (bytes_eq a b) (bytes_eq (chars a) (chars b)) (bytes_eq-Decides a b)
    (λ h. sym (encodes-chars a u) ∙ (ap encode_utf8_all (d.0 h) ∙ encodes-chars b v), λ e. d.1 (ap chars e))

-- the last group of a name, with one group more
module _ (groups : List GroupName) (i : ℕ) (g : GroupName) (below : i < length groups) (is : g ≡ get_or groups i g) where
  one_more : reverse (named_groups (take (i + 1) groups)) ≡ named_group g ∷ reverse (named_groups (take i groups))
  one_more =
      ap reverse (map_more named_group groups i g below)
      ∙ (reverse-append (named_groups (take i groups)) (named_group (get_or groups i g) ∷ []) ∙ ap (λ x. named_group x ∷ reverse (named_groups (take i groups))) (sym is))

  pub last_named_more : (name : Text) (b : Bool) → b ≡ bytes_eq (named_group g).0 name → last_named name (named_groups (take (i + 1) groups)) ≡ cond b (Some g.group) (last_named name (named_groups (take i groups)))
  last_named_more name b e = ap (λ l. option_map (λ (x : Text × ℕ). x.1) (find (λ (x : Text × ℕ). bytes_eq x.0 name) l)) one_more ∙ go (bytes_eq (named_group g).0 name) b e
    where
      rest : Option (Text × ℕ)
      rest = find (λ (x : Text × ℕ). bytes_eq x.0 name) (reverse (named_groups (take i groups)))

      go : (a b : Bool) → b ≡ a → option_map (λ (x : Text × ℕ). x.1) (cond a (Some (named_group g)) rest) ≡ cond b (Some g.group) (option_map (λ (x : Text × ℕ). x.1) rest)
      go true true h = refl
      go false false h = refl
      go true false h = cc
      go false true h = cc
