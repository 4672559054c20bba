-- Lemmas on the members of an operand, item by item.
use Rattle.std.proofs.Common.{◌≡◌, ℕ, ◌==◌, Bool, true, false, ◌&&◌, ◌||◌, List, [], ◌∷◌, ◌++◌, map, refl, sym, ap, ◌∙◌}
use mathlib.Core.Path.{fun_ext}
use Rattle.std.specs.List.{list_any}
use Rattle.fancy_class.specs.contracts.class_item.ClassItemPartialEq.TheImpl as TheImpl
use Rattle.fancy_class.proofs.ItemLemmas.{same_item}
use Rattle.std.proofs.lemmas.List.{map-append}
use Rattle.ucd_case.specs.CaseFolding.{fold_pairs}
use Rattle.unicode.specs.Rows.{in_ranges}
use Rattle.fancy_tree.specs.declared.tree.Meaning.{Meaning}
use Rattle.fancy_tree.specs.declared.tree.Meaning.TheVariants.{Unicode, Bytes, AsciiText}
use Rattle.fancy_tree.specs.Sets.{in_range}
use Rattle.fancy_tree.specs.Members.{Members, both}
use Rattle.fancy_tree.specs.Widening.{in_pairs, pairs_to, ascii_pairs}
use Rattle.fancy_tree.specs.Named.{in_universe}
use Rattle.fancy_class.specs.ClassGrammar.{fold_case, characters, none_of, union_of, item_members}
use Rattle.fancy_class.specs.ClassViews.{characters_in, items_members}
use Rattle.fancy_class.specs.declared.class_item.ClassItem.{ClassItem}
use Rattle.fancy_class.specs.declared.context.ClassContext.{ClassContext}
use Rattle.fancy_tree.proofs.EdgesLemmas.{in_ranges-push, in_ranges-nil, and_over_or, or-false}

and-false : (b : Bool) → (b && false) ≡ false
and-false true = refl
and-false false = refl

pub or_assoc : (x y z : Bool) → (x || (y || z)) ≡ ((x || y) || z)
or_assoc true y z = refl
or_assoc false y z = refl

mix : (x a b u v : Bool) → ((x && (a || b)) || (u || v)) ≡ (((x && a) || u) || ((x && b) || v))
mix true true b u v = refl
mix true false true true v = refl
mix true false true false v = refl
mix true false false u v = refl
mix false a b u v = refl

in_pairs-none : (ps : List (ℕ × ℕ)) (c : ℕ) → in_pairs ps none_of c ≡ false
in_pairs-none [] c = refl
in_pairs-none (q ∷ ps) c = ap (λ b. b || in_pairs ps none_of c) (and-false (q.0 == c)) ∙ in_pairs-none ps c

in_pairs-both : (ps : List (ℕ × ℕ)) (f g : Members) (c : ℕ) → in_pairs ps (both f g) c ≡ (in_pairs ps f c || in_pairs ps g c)
in_pairs-both [] f g c = refl
in_pairs-both (q ∷ ps) f g c =
    ap (λ b. pairs_to (both f g) c q || b) (in_pairs-both ps f g c) ∙ mix (q.0 == c) (f q.1) (g q.1) (in_pairs ps f c) (in_pairs ps g c)

fold_case-none : (m : Meaning) (i : Bool) (c : ℕ) → fold_case m i none_of c ≡ false
fold_case-none m false c = refl
fold_case-none Unicode true c = in_pairs-none fold_pairs c
fold_case-none Bytes true c = in_pairs-none ascii_pairs c
fold_case-none AsciiText true c = in_pairs-none ascii_pairs c

fold_case-both : (m : Meaning) (i : Bool) (f g : Members) (c : ℕ) → fold_case m i (both f g) c ≡ (fold_case m i f c || fold_case m i g c)
fold_case-both m false f g c = refl
fold_case-both Unicode true f g c =
    ap (λ b. (f c || g c) || b) (in_pairs-both fold_pairs f g c) ∙ mix true (f c) (g c) (in_pairs fold_pairs f c) (in_pairs fold_pairs g c)
fold_case-both Bytes true f g c =
    ap (λ b. (f c || g c) || b) (in_pairs-both ascii_pairs f g c) ∙ mix true (f c) (g c) (in_pairs ascii_pairs f c) (in_pairs ascii_pairs g c)
fold_case-both AsciiText true f g c =
    ap (λ b. (f c || g c) || b) (in_pairs-both ascii_pairs f g c) ∙ mix true (f c) (g c) (in_pairs ascii_pairs f c) (in_pairs ascii_pairs g c)

-- the characters in these ranges and one more
one_more : (rs new : List (ℕ × ℕ)) (a b c : ℕ) → new ≡ rs ++ (a, b) ∷ [] → characters_in new c ≡ both (characters_in rs) (characters a b) c
one_more rs new a b c is =
    ap (λ l. in_universe Unicode c && in_ranges l c) is
    ∙ (ap (λ x. in_universe Unicode c && x) (in_ranges-push rs (a, b) c) ∙ and_over_or (in_universe Unicode c) (in_ranges rs c) (in_range (a, b) c))

or_last : (x y z : Bool) → ((x || y) || z) ≡ ((x || z) || y)
or_last true y z = refl
or_last false true true = refl
or_last false true false = refl
or_last false false true = refl
or_last false false false = refl

or_second : (x y z w : Bool) → ((x || (y || z)) || w) ≡ (((x || y) || w) || z)
or_second true y z w = refl
or_second false true z w = refl
or_second false false z w = or_last false z w

or-true : (b : Bool) → (b || true) ≡ true
or-true true = refl
or-true false = refl

pub or_first : (x y w z : Bool) → (((x || z) || y) || w) ≡ (((x || y) || w) || z)
or_first true y w z = refl
or_first false y w true = sym (or-true (y || w))
or_first false y w false = sym (or-false (y || w))

pub builder_none : (m : Meaning) (i : Bool) (f : Members) (rs : List (ℕ × ℕ)) (b : Bool) (c : ℕ) → f c ≡ false → rs ≡ [] → b ≡ false → ((f c || fold_case m i (characters_in rs) c) || b) ≡ false
builder_none m i f rs b c e is g =
    let nothing : characters_in rs ≡ none_of = fun_ext (λ x. ap (λ l. in_universe Unicode x && in_ranges l x) is ∙ (ap (λ y. in_universe Unicode x && y) (in_ranges-nil x) ∙ and-false (in_universe Unicode x))) in
    ap (λ x. (f c || fold_case m i (characters_in rs) c) || x) g ∙ (ap (λ x. (x || fold_case m i (characters_in rs) c) || false) e ∙ (ap (λ h. fold_case m i h c || false) nothing ∙ ap (λ x. x || false) (fold_case-none m i c)))

pub builder_range : (m : Meaning) (i : Bool) (f : Members) (rs new : List (ℕ × ℕ)) (a b : ℕ) (w : Bool) (c : ℕ) → new ≡ rs ++ (a, b) ∷ [] →
    ((f c || fold_case m i (characters_in new) c) || w) ≡ (((f c || fold_case m i (characters_in rs) c) || w) || fold_case m i (characters a b) c)
builder_range m i f rs new a b w c is =
    let grown : characters_in new ≡ both (characters_in rs) (characters a b) = fun_ext (λ z. one_more rs new a b z is) in
    ap (λ s. (f c || fold_case m i s c) || w) grown
    ∙ (ap (λ z. (f c || z) || w) (fold_case-both m i (characters_in rs) (characters a b) c)
    ∙ or_second (f c) (fold_case m i (characters_in rs) c) (fold_case m i (characters a b) c) w)

-- the members of all of these and one more
pub union_of-push : (fs : List Members) (f : Members) (c : ℕ) → union_of (fs ++ f ∷ []) c ≡ (union_of fs c || f c)
union_of-push [] f c = or-false (f c)
union_of-push (g ∷ fs) f c = ap (λ b. g c || b) (union_of-push fs f c) ∙ or_assoc (g c) (union_of fs c) (f c)

-- the members of these items and one more
pub items_more : (context : ClassContext) (items new : List ClassItem) (item : ClassItem) (b : Bool) (c : ℕ) → new ≡ items ++ item ∷ [] →
    (b || items_members context new c) ≡ ((b || items_members context items c) || item_members context.meaning context.fold item c)
items_more context items new item b c is =
    let g = item_members context.meaning context.fold in
    ap (λ l. b || items_members context l c) is
    ∙ (ap (λ l. b || union_of l c) (map-append g items (item ∷ []))
    ∙ (ap (λ x. b || x) (union_of-push (map g items) (g item) c) ∙ or_assoc b (items_members context items c) (g item c)))

or_within : (x y z : Bool) → (z ≡ true → y ≡ true) → (x || y) ≡ ((x || y) || z)
or_within true y z h = refl
or_within false y false h = sym (or-false y)
or_within false true true h = refl
or_within false false true h = h refl

-- the members of an item that is among these are theirs
one_of : (context : ClassContext) (items : List ClassItem) (item : ClassItem) (c : ℕ) → list_any (λ x. (TheImpl.ghosts).eq x item) items ≡ true → item_members context.meaning context.fold item c ≡ true → items_members context items c ≡ true
one_of context [] item c h k = cc
one_of context (x ∷ items) item c h k = go ((TheImpl.ghosts).eq x item) refl h (λ e. one_of context items item c e k)
  where
    g : ClassItem → Members
    g = item_members context.meaning context.fold

    go : (b : Bool) → (TheImpl.ghosts).eq x item ≡ b → (b || list_any (λ y. (TheImpl.ghosts).eq y item) items) ≡ true → (list_any (λ y. (TheImpl.ghosts).eq y item) items ≡ true → items_members context items c ≡ true) →
        (g x c || items_members context items c) ≡ true
    go true e h rest = ap (λ b. b || items_members context items c) (ap (λ y. g y c) (same_item x item e) ∙ k)
    go false e h rest = ap (λ b. g x c || b) (rest h) ∙ or-true (g x c)

-- an item that is among these adds nothing
pub items_again : (context : ClassContext) (items : List ClassItem) (item : ClassItem) (b : Bool) (c : ℕ) → list_any (λ x. (TheImpl.ghosts).eq x item) items ≡ true →
    (b || items_members context items c) ≡ ((b || items_members context items c) || item_members context.meaning context.fold item c)
items_again context items item b c h = or_within b (items_members context items c) (item_members context.meaning context.fold item c) (one_of context items item c h)
