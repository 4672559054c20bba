-- Items of classes that are found equal are one.
use Rattle.std.proofs.Common.{◌≡◌, ◌==◌, Bool, true, false, refl, sym, ap, ap₂, rules}
use mathlib.Core.Bool.{beq}
use denote.Enum.Bare.{same_true}
use Rattle.ucd_sets.specs.declared.set.Set.{Set as PropertySet}
use Rattle.ucd_sets.specs.declared.set.Set.TheVariants.{Any, Ascii, Assigned, Binary, Category, CategoryGroup, Script, ScriptExtension, Age, GraphemeClusterBreak, WordBreak, SentenceBreak}
use Rattle.ucd_sets.specs.contracts.set.SetPartialEq.TheImpl as sets
use Rattle.ucd_sets.specs.contracts.property.BinaryProperty as binary
use Rattle.ucd_category.specs.contracts.GeneralCategory as category
use Rattle.ucd_category.specs.contracts.GeneralCategoryGroup as category_group
use Rattle.ucd_script.specs.contracts.Script as script
use Rattle.ucd_age.specs.contracts.Age as age
use Rattle.ucd_breaks.specs.contracts.GraphemeClusterBreak as grapheme_cluster_break
use Rattle.ucd_breaks.specs.contracts.WordBreak as word_break
use Rattle.ucd_breaks.specs.contracts.SentenceBreak as sentence_break
use Rattle.fancy_tree.specs.contracts.named.Named as named
use Rattle.fancy_tree.proofs.Facts.{both_true, char_is}
use Rattle.fancy_class.specs.contracts.class_item.ClassItemPartialEq.TheImpl as items
use Rattle.fancy_class.specs.declared.class_item.ClassItem.{ClassItem}
use Rattle.fancy_class.specs.declared.class_item.ClassItem.TheVariants.{Range, NamedSet, Property}

same_property : (s t : PropertySet) → (sets.ghosts).eq s t ≡ true → s ≡ t
same_property Any Any h = refl
same_property Ascii Ascii h = refl
same_property Assigned Assigned h = refl
same_property (Binary p) (Binary q) h = ap Binary (same_true binary.the_type (search rules) p q h)
same_property (Category p) (Category q) h = ap Category (same_true category.the_type (search rules) p q h)
same_property (CategoryGroup p) (CategoryGroup q) h = ap CategoryGroup (same_true category_group.the_type (search rules) p q h)
same_property (Script p) (Script q) h = ap Script (same_true script.the_type (search rules) p q h)
same_property (ScriptExtension p) (ScriptExtension q) h = ap ScriptExtension (same_true script.the_type (search rules) p q h)
same_property (Age p) (Age q) h = ap Age (same_true age.the_type (search rules) p q h)
same_property (GraphemeClusterBreak p) (GraphemeClusterBreak q) h = ap GraphemeClusterBreak (same_true grapheme_cluster_break.the_type (search rules) p q h)
same_property (WordBreak p) (WordBreak q) h = ap WordBreak (same_true word_break.the_type (search rules) p q h)
same_property (SentenceBreak p) (SentenceBreak q) h = ap SentenceBreak (same_true sentence_break.the_type (search rules) p q h)
same_property s t h = cc

same_mark : (x y : Bool) → beq x y ≡ true → x ≡ y
same_mark true true h = refl
same_mark false false h = refl
same_mark x y h = cc

pub same_item : (a b : ClassItem) → (items.ghosts).eq a b ≡ true → a ≡ b
same_item (Range x y) (Range z w) h = let e = both_true (x == z) (y == w) h in ap₂ Range (sym (char_is x z e.0)) (sym (char_is y w e.1))
same_item (NamedSet n x) (NamedSet m y) h = let e = both_true _ (beq x y) h in ap₂ NamedSet (same_true named.the_type (search rules) n m e.0) (same_mark x y e.1)
same_item (Property s x) (Property t y) h = let e = both_true ((sets.ghosts).eq s t) (beq x y) h in ap₂ Property (same_property s t e.0) (same_mark x y e.1)
same_item a b h = cc
