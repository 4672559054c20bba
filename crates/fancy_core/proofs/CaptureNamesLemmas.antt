-- The names of groups, as loops over them go.
use Rattle.std.proofs.Common.{◌≡◌, ℕ, ◌+◌, ◌<◌, ◌≤◌, ◌≢◌, ◌==◌, Bool, true, false, List, [], ◌∷◌, Option, Some, None, option_map, find, reverse, length, take, get_or, map, set, replicate, cond, refl, sym, ap, ◌∙◌, arith}
use Rattle.std.specs.List.{range_with_len}
use Rattle.std.specs.Borrow.{Bor}
use Rattle.std.proofs.lemmas.List.{map_more, reverse-append, ext_get_or, get_or-map, get_or-set_other, get_or-replicate, length-replicate, length-map, length-set}
use Rattle.std.proofs.lemmas.Grind.{get_or-set_at}
use Rattle.std.proofs.lemmas.List.FromFn.{get_or-map-range_with_len, length-map-range_with_len}
use Rattle.std.proofs.lemmas.Bool.Decides.{nat_tests}
use Rattle.fancy_tree.specs.declared.name.GroupName.{GroupName}
use Rattle.fancy_tree.specs.Text.{Text}
use Rattle.fancy_tree.specs.Names.{named_group, named_groups}
use Rattle.fancy_core.specs.CaptureNames.{name_among, read_name}

-- one group more
module _ (groups : List GroupName) (i : ℕ) (g : GroupName) (below : i < length groups) (is : g ≡ get_or groups i g) where
  one_more : reverse (named_groups (take (i + 1) groups)) ≡ named_group g ∷ reverse (named_groups (take i groups))
  one_more =
      ap reverse (map_more named_group groups i g below)
      ∙ (reverse-append (named_groups (take i groups)) (named_group (get_or groups i g) ∷ []) ∙ ap (λ x. named_group x ∷ reverse (named_groups (take i groups))) (sym is))

  pub name_among_more : (number : ℕ) → name_among (named_groups (take (i + 1) groups)) number ≡ cond (g.group == number) (Some (named_group g).0) (name_among (named_groups (take i groups)) number)
  name_among_more number = ap (λ l. option_map (λ (x : Text × ℕ). x.0) (find (λ (x : Text × ℕ). x.1 == number) l)) one_more ∙ go (g.group == number)
    where
      rest : Option (Text × ℕ)
      rest = find (λ (x : Text × ℕ). x.1 == number) (reverse (named_groups (take i groups)))

      go : (a : Bool) → option_map (λ (x : Text × ℕ). x.0) (cond a (Some (named_group g)) rest) ≡ cond a (Some (named_group g).0) (option_map (λ (x : Text × ℕ). x.0) rest)
      go true = refl
      go false = refl

abbrev Names : Type 0
Names = List (Option (Bor (List ℕ)))

-- the names at their numbers, of the groups that a loop has been at
abbrev pub Placed : Names → List (Text × ℕ) → Type 0
Placed names groups = (k : ℕ) → k < length names → get_or (map read_name names) k None ≡ name_among groups k

pub placed_none : (names : Names) (n : ℕ) → names ≡ replicate n None → Placed names []
placed_none names n e = λ k h.
    let same : length names ≡ n = ap (length {A = Option (Bor (List ℕ))}) e ∙ length-replicate n None in
    get_or-map read_name names k None None h ∙ ap read_name (ap (λ l. get_or l k None) e ∙ get_or-replicate n k None None (omega (arith, h, same)))

pub as_many : (names : Names) (n : ℕ) → names ≡ replicate n None → length names ≡ n
as_many names n e = ap (length {A = Option (Bor (List ℕ))}) e ∙ length-replicate n None

module _ (groups : List GroupName) (i : ℕ) (g : GroupName) (below : i < length groups) (is : g ≡ get_or groups i g) (names : Names) (so_far : Placed names (named_groups (take i groups))) where
  pub placed_more : (y : Option (Bor (List ℕ))) → read_name y ≡ Some (named_group g).0 → g.group < length names → Placed (set names g.group y) (named_groups (take (i + 1) groups))
  placed_more y e fits = λ k h. go k (rw length-set at h) (g.group == k) refl ∙ sym (name_among_more groups i g below is k)
    where
      go : (k : ℕ) → k < length names → (b : Bool) → (g.group == k) ≡ b → get_or (map read_name (set names g.group y)) k None ≡ cond b (Some (named_group g).0) (name_among (named_groups (take i groups)) k)
      go k h true at =
          let same : k ≡ g.group = grind (arith, nat_tests) in
          let inside : k < length (set names g.group y) = rw length-set h in
          get_or-map read_name (set names g.group y) k None None inside ∙ (ap read_name (get_or-set_at names g.group k y None same fits) ∙ e)
      go k h false at =
          let other : k ≢ g.group = λ same. absurd (let no : (g.group == k) ≡ true = grind (arith, nat_tests) in cc) in
          let inside : k < length (set names g.group y) = rw length-set h in
          get_or-map read_name (set names g.group y) k None None inside
          ∙ (ap read_name (get_or-set_other names g.group k y None other) ∙ (sym (get_or-map read_name names k None None h) ∙ so_far k h))

  pub placed_past : length names ≤ g.group → Placed names (named_groups (take (i + 1) groups))
  placed_past past = λ k h.
      let other : (g.group == k) ≡ false = grind (arith, nat_tests) in
      so_far k h ∙ sym (name_among_more groups i g below is k ∙ (rw other refl))

-- all names at their numbers are the names of the groups
pub placed_all : (names : Names) (n : ℕ) (groups : List (Text × ℕ)) → length names ≡ n → Placed names groups → map read_name names ≡ map (name_among groups) (range_with_len 0 n)
placed_all names n groups e h =
    ext_get_or None (map read_name names) (map (name_among groups) (range_with_len 0 n)) (length-map names read_name ∙ (e ∙ sym (length-map-range_with_len (name_among groups) 0 n)))
    (λ k below.
    let inside : k < length names = rw length-map at below in
    h k inside ∙ sym (get_or-map-range_with_len (name_among groups) 0 n k k None (omega (arith, e, inside)) (omega arith)))
