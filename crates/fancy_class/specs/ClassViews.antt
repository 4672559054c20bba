-- What the functions that read a class promise each other.
use Rattle.std.specs.Prelude.{◌≡◌, ℕ, ◌+◌, ◌*◌, min, ◌&&◌, ◌||◌, nat_lt, List, [], ◌∷◌, map, Option, Some, None, Result, Ok, Err, if◌then◌else◌}
use Rattle.std.specs.Char.{digit_value}
use Rattle.fancy_class.specs.declared.refusal.ClassRefusal.{ClassRefusal}
use Rattle.fancy_class.specs.declared.refusal.ClassRefusal.TheVariants.{Memory, Invalid}
use Rattle.fancy_class.specs.declared.class_builder.ClassBuilder.{ClassBuilder}
use Rattle.fancy_class.specs.declared.context.ClassContext.{ClassContext}
use Rattle.unicode.specs.Rows.{in_ranges}
use Rattle.fancy_tree.specs.Text.{Text}
use Rattle.fancy_class.specs.Chains.{chain_members}
use Rattle.fancy_class.specs.Readings.{IsTheReading, HasNoReading}
use Rattle.fancy_tree.specs.Members.{Members, both}
use Rattle.fancy_class.specs.ClassGrammar.{fold_case, item_members, union_of}
use Rattle.fancy_class.specs.declared.class_item.ClassItem.{ClassItem}
use Rattle.fancy_tree.specs.declared.tree.Meaning.TheVariants.{Unicode}
use Rattle.fancy_tree.specs.Named.{in_universe}

-- the fault is the text's own
abbrev pub IsInvalid : ClassRefusal → Type 0
IsInvalid Memory = ⊥
IsInvalid (Invalid kind) = Unit {0}

-- memory ran out, or the text is at fault: then the claim holds
abbrev pub RefusesClass : ClassRefusal → Type 0 → Type 0
RefusesClass Memory claim = Unit {0}
RefusesClass (Invalid kind) claim = claim

-- What a cursor gives is the one reading from p, and q is where it ends; or there is none, unless memory ran out.
abbrev pub ClassGives : {X T : Type 0} → (X → T) → (Text → T → Text → Type 0) → Result X ClassRefusal → Text → Text → Type 0
ClassGives view R (Ok x) p q = IsTheReading R p (view x) q
ClassGives view R (Err e) p q = RefusesClass e (HasNoReading R p)

-- the same where the grammar's own reading is a function
abbrev pub ClassGivesValue : {X T : Type 0} → (X → T) → Option (T × Text) → Result X ClassRefusal → Text → Type 0
ClassGivesValue view o (Ok x) q = o ≡ Some (view x, q)
ClassGivesValue view o (Err e) q = RefusesClass e (o ≡ None)

-- the characters in any of these ranges
abbrev pub characters_in : List (ℕ × ℕ) → Members
characters_in ranges = λ c. in_universe Unicode c && in_ranges ranges c

-- the members of all these items, under the flags in force
abbrev pub items_members : ClassContext → List ClassItem → Members
items_members context items = union_of (map (item_members context.meaning context.fold) items)

-- the members of an operand so far: those of nested classes, those of sets that have a name, and the ranges, which are to be widened
abbrev pub builder_members : ClassContext → ClassBuilder → Members
builder_members context builder =
    both (both (chain_members builder.nested) (fold_case context.meaning context.fold (characters_in builder.ranges.items))) (items_members context builder.named.items)

-- these members were added to those before
abbrev pub Adds : ClassContext → ClassBuilder → ClassBuilder → Members → Type 0
Adds context old new f = (c : ℕ) → builder_members context new c ≡ (builder_members context old c || f c)

-- The number that hexadecimal digits write, as they are read: the first that is too large for a character stands for all of them.
abbrev pub capped_number : ℕ → Text → Option ℕ
capped_number n [] = Some n
capped_number n (c ∷ t) = if nat_lt (digit_value c) 16 then capped_number (min (n * 16 + digit_value c) 0x11_0000) t else None
