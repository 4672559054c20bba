-- The grammar of classes, over whole texts: which text is a class with which members. One item that is no class is read from its place on, since its own characters say where it ends.
use Rattle.std.specs.Prelude.{◌≡◌, ℕ, suc, nat_lt, Bool, true, false, not, ◌||◌, ◌&&◌, List, [], ◌∷◌, ◌++◌, codes, drop, Option, Some, None, if◌then◌else◌}
use Rattle.ucd_sets.specs.declared.set.Set.{Set as PropertySet}
use Rattle.fancy_tree.specs.Limits.{most_brackets}
use Rattle.fancy_tree.specs.Text.{Text}
use Rattle.fancy_class.specs.Words.{is_at, begins, by_word}
use Rattle.fancy_class.specs.EscapeGrammar.{single_character, set_here, letters, is_property, property_name}
use Rattle.fancy_tree.specs.Properties.{property_named, has_property}
use Rattle.fancy_tree.specs.Sets.{has, AreEdges, in_range}
use Rattle.fancy_tree.specs.Members.{Members, both, applied}
use Rattle.fancy_tree.specs.Named.{in_named_set, in_universe, is_unicode}
use Rattle.fancy_tree.specs.Widening.{case_closure}
use Rattle.fancy_class.specs.declared.class_item.ClassItem.{ClassItem}
use Rattle.fancy_class.specs.declared.class_item.ClassItem.TheVariants.{Range, NamedSet, Property}
use Rattle.fancy_tree.specs.declared.named.Named.{Named}
use Rattle.fancy_tree.specs.declared.named.Named.TheVariants.{Hexadecimal, Alphanumeric, Alphabetic, Ascii, Blank, Control, Graphic, Lowercase, Printable, Punctuation, AsciiSpace, Uppercase, AsciiWord, AsciiDigit}
use Rattle.fancy_tree.specs.declared.tree.Meaning.{Meaning}
use Rattle.fancy_tree.specs.declared.tree.Meaning.TheVariants.{Unicode, Bytes, AsciiText}
use Rattle.fancy_tree.specs.declared.operation.Operation.{Operation}
use Rattle.fancy_tree.specs.declared.operation.Operation.TheVariants.{Intersection, Difference, SymmetricDifference}

-- the character, written as a byte or not, can be a member
abbrev pub fits : Meaning → ℕ → Bool → Bool
fits Unicode c is_byte = true
fits Bytes c is_byte = is_byte || nat_lt c 128
fits AsciiText c is_byte = nat_lt c 128

abbrev pub is_ascii_meaning : Meaning → Bool
is_ascii_meaning AsciiText = true
is_ascii_meaning _ = false

-- a set may have its complement taken
abbrev pub may_negate : Meaning → Bool → Bool
may_negate m negated = not (negated && is_ascii_meaning m)

-- a hyphen that makes a range
abbrev pub is_ranged : Text → Bool
is_ranged t = is_at "-" t && not (is_at "]-" (drop 1 t))

abbrev pub range_to : Meaning → ℕ → Option ((ℕ × Bool) × Text) → Option (ClassItem × Text)
range_to m a (Some ((b, is_byte), q)) = if not (fits m b is_byte) || nat_lt b a then None else Some (Range a b, q)
range_to m a None = None

abbrev pub range_from : Meaning → Option ((ℕ × Bool) × Text) → Option (ClassItem × Text)
range_from m (Some ((a, is_byte), q)) =
    if not (fits m a is_byte) then None
    else if is_ranged q then range_to m a (single_character (drop 1 q))
    else Some (Range a a, q)
range_from m None = None

-- a single character, or a range
abbrev pub range : Meaning → Text → Option (ClassItem × Text)
range m p = range_from m (single_character p)

abbrev pub named_set_of : Meaning → Text → Named × Bool → Option (ClassItem × Text)
named_set_of m t (n, negated) = if may_negate m negated then Some (NamedSet n negated, t) else None

-- the names of POSIX sets, each with what closes it
abbrev pub posix_words : List (Text × Named)
posix_words =
    (codes "alnum:]", Alphanumeric) ∷
    (codes "alpha:]", Alphabetic) ∷
    (codes "ascii:]", Ascii) ∷
    (codes "blank:]", Blank) ∷
    (codes "cntrl:]", Control) ∷
    (codes "digit:]", AsciiDigit) ∷
    (codes "graph:]", Graphic) ∷
    (codes "lower:]", Lowercase) ∷
    (codes "print:]", Printable) ∷
    (codes "punct:]", Punctuation) ∷
    (codes "space:]", AsciiSpace) ∷
    (codes "upper:]", Uppercase) ∷
    (codes "word:]", AsciiWord) ∷
    (codes "xdigit:]", Hexadecimal) ∷
    []

abbrev pub is_posix_name : Text → Bool
is_posix_name t = nat_lt 0 (letters t) && begins ":]" (drop (letters t) t)

-- a POSIX set is written here, known or not
abbrev pub is_posix : Text → Bool
is_posix p = if begins "[:^" p then is_posix_name (drop 3 p) else begins "[:" p && is_posix_name (drop 2 p)

abbrev pub posix_of : Meaning → Bool → Option (Named × Text) → Option (ClassItem × Text)
posix_of m negated (Some (n, t)) = named_set_of m t (n, negated)
posix_of m negated None = None

abbrev pub posix : Meaning → Text → Option (ClassItem × Text)
posix m p = if begins "[:^" p then posix_of m true (by_word posix_words (drop 3 p)) else posix_of m false (by_word posix_words (drop 2 p))

abbrev pub found_property : Bool → Text → Option PropertySet → Option (ClassItem × Text)
found_property negated t (Some s) = Some (Property s negated, t)
found_property negated t None = None

abbrev pub property_of : Meaning → Bool → Option (Text × Text) → Option (ClassItem × Text)
property_of m negated (Some (name, t)) = if is_unicode m then found_property negated t (property_named name) else None
property_of m negated None = None

-- the set of a property, or its complement
abbrev pub property : Meaning → Text → Option (ClassItem × Text)
property m p = property_of m (begins "\\P" p) (property_name (drop 2 p))

abbrev pub class_item_of : Meaning → Text → Option (Named × Bool) → Option (ClassItem × Text)
class_item_of m p (Some found) = named_set_of m (drop 2 p) found
class_item_of m p None = range m p

-- a character, a range or the name of a set
abbrev pub class_item : Meaning → Text → Option (ClassItem × Text)
class_item m p = if is_posix p then posix m p else if is_property p then property m p else class_item_of m p (set_here p)

-- No item follows: the text is at an operator or at the closing bracket. Where a class begins, `]` and `--` are none of these, but members.
abbrev pub ends_operand : Bool → Text → Bool
ends_operand first [] = true
ends_operand first (c ∷ t) =
    (not first && (is_at "]" (c ∷ t) || begins "--" (c ∷ t))) || begins "&&" (c ∷ t) || begins "~~" (c ∷ t)

-- a bracket that opens a class, and no POSIX set
abbrev pub starts_class : Text → Bool
starts_class t = is_at "[" t && not (is_posix t)

-- the members of a set, in a class under flag `i` or not
abbrev pub fold_case : Meaning → Bool → Members → Members
fold_case m false f = f
fold_case m true f = case_closure m f

-- what the set lacks, of the numbers that an item can consume
abbrev pub complement : Meaning → Members → Members
complement m f = λ c. in_universe m c && not (f c)

abbrev pub negate_if : Meaning → Bool → Members → Members
negate_if m false f = f
negate_if m true f = complement m f

-- what a set gives a class: under flag `i` it is widened before its complement is taken
abbrev pub set_members : Meaning → Bool → Bool → Members → Members
set_members m i negated f = negate_if m negated (fold_case m i f)

-- the characters from the first to the last
abbrev pub characters : ℕ → ℕ → Members
characters a b = λ c. in_universe Unicode c && in_range (a, b) c

-- the members of one item
abbrev pub item_members : Meaning → Bool → ClassItem → Members
item_members m i (Range a b) = fold_case m i (characters a b)
item_members m i (NamedSet n negated) = set_members m i negated (in_named_set m n)
item_members m i (Property s negated) = set_members m i negated (has_property s)

abbrev pub none_of : Members
none_of = λ c. false

-- the members of all of these
abbrev pub union_of : List Members → Members
union_of [] = none_of
union_of (f ∷ fs) = both f (union_of fs)

-- a set, and after it operators with a set each: they are applied from the left to the right
abbrev pub combine_all : Members → List (Operation × Members) → Members
combine_all f [] = f
combine_all f ((how, x) ∷ others) = combine_all (λ c. applied how (f c) (x c)) others

-- These two characters are an operator.
pub data Operator : Text → Operation → Type 0 where
  intersection : Operator (codes "&&") Intersection
  difference : Operator (codes "--") Difference
  symmetric_difference : Operator (codes "~~") SymmetricDifference

-- `after` is what follows the text in the whole pattern, so that each case can say that no other form begins at its place. The number says how many brackets more may be open at one place.
mutual
  -- A class, from its bracket to the other one. After `^` the complement is taken, last of all.
  pub data Class : Meaning → Bool → ℕ → Text → Text → Members → Type 0 where
    unnegated : {m : Meaning} {i : Bool} {k : ℕ} {t after : Text} {f : Members} → is_at "^" (t ++ (codes "]" ++ after)) ≡ false → Operands m i k t (codes "]" ++ after) f → Class m i (suc k) (codes "[" ++ (t ++ codes "]")) after f
    negated : {m : Meaning} {i : Bool} {k : ℕ} {t after : Text} {f : Members} → is_ascii_meaning m ≡ false → Operands m i k t (codes "]" ++ after) f → Class m i (suc k) (codes "[^" ++ (t ++ codes "]")) after (complement m f)

  -- operands with operators between them
  pub data Operands : Meaning → Bool → ℕ → Text → Text → Members → Type 0 where
    operands : {m : Meaning} {i : Bool} {k : ℕ} {t u after : Text} {fs : List Members} {others : List (Operation × Members)} → OperandItems m i k true t (u ++ after) fs → Others m i k u after others → Operands m i k (t ++ u) after (combine_all (union_of fs) others)

  -- operators, each with the members of the operand that follows it
  pub data Others : Meaning → Bool → ℕ → Text → Text → List (Operation × Members) → Type 0 where
    no_other : {m : Meaning} {i : Bool} {k : ℕ} {after : Text} → Others m i k [] after []
    other : {m : Meaning} {i : Bool} {k : ℕ} {o t u after : Text} {how : Operation} {fs : List Members} {others : List (Operation × Members)} → Operator o how → OperandItems m i k false t (u ++ after) fs → Others m i k u after others
        → Others m i k (o ++ (t ++ u)) after ((how, union_of fs) ∷ others)

  -- the items of an operand, one after another, by the members of each; `first` says that the class begins with them
  pub data OperandItems : Meaning → Bool → ℕ → Bool → Text → Text → List Members → Type 0 where
    no_item : {m : Meaning} {i : Bool} {k : ℕ} {first : Bool} {after : Text} → ends_operand first after ≡ true → OperandItems m i k first [] after []
    item : {m : Meaning} {i : Bool} {k : ℕ} {first : Bool} {t u after : Text} {f : Members} {fs : List Members} → ends_operand first (t ++ (u ++ after)) ≡ false → OperandItem m i k t (u ++ after) f → OperandItems m i k false u after fs
        → OperandItems m i k first (t ++ u) after (f ∷ fs)

  -- a character, a range, the name of a set, or a class in the class
  pub data OperandItem : Meaning → Bool → ℕ → Text → Text → Members → Type 0 where
    simple : {m : Meaning} {i : Bool} {k : ℕ} {t after : Text} {x : ClassItem} → starts_class (t ++ after) ≡ false → class_item m (t ++ after) ≡ Some (x, after) → OperandItem m i k t after (item_members m i x)
    nested : {m : Meaning} {i : Bool} {k : ℕ} {t after : Text} {f : Members} → is_posix (t ++ after) ≡ false → Class m i k t after f → OperandItem m i k t after f

-- the text begins with a class that has these members, and this is what follows it
pub record ReadsClass (m : Meaning) (i : Bool) (text : Text) (f : Members) (rest : Text) : Type 0 where
  pub class : Text
  pub is : text ≡ class ++ rest
  pub spelled : Class m i most_brackets class rest f

-- the same, by the edges of its members, of which each set has one list
abbrev pub ReadsEdges : Meaning → Bool → Text → List ℕ → Text → Type 0
ReadsEdges m i p es q = AreEdges es × ReadsClass m i p (has es) q
