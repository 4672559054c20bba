-- The dialect as it is read: a text is read from one place to another, and nothing here says in which order. Lemmas show that this reading and `Dialect` give the same patterns.
use Rattle.std.specs.Prelude.{◌≡◌, ℕ, zero, suc, ◌+◌, ◌≤◌, Bool, true, false, not, ◌||◌, ◌&&◌, nat_le, List, [], ◌∷◌, drop, length, Option, Some, None, option_map, ◌==◌, if◌then◌else◌}
use Prim.Native.Char.{code}
use Rattle.std.specs.Option.{option_and_then}
use Rattle.fancy_tree.specs.Limits.{most_parentheses, most_turns}
use Rattle.fancy_tree.specs.declared.tree.Meaning.{Meaning}
use Rattle.fancy_tree.specs.declared.tree.RepeatKind.{RepeatKind}
use Rattle.fancy_tree.specs.declared.tree.RepeatKind.TheVariants.{Greedy, Lazy, Possessive}
use Rattle.fancy_syntax.specs.declared.groups.Grouping.{Grouping}
use Rattle.fancy_syntax.specs.declared.groups.Grouping.TheVariants.{Atomic, LookAhead, LookBehind}
use Rattle.fancy_tree.specs.Pattern.{Pattern, backreference, group, repeat, in_sequence, in_branches}
use Rattle.fancy_tree.specs.Sizes.{is_empty}
use Rattle.fancy_tree.specs.Text.{Text, ◌∈◌}
use Rattle.fancy_class.specs.Words.{is_at, begins}
use Rattle.fancy_syntax.specs.Counts.{is_at_digit, past_digits, decimal, begins_count}
use Rattle.fancy_syntax.specs.Blanks.{past_blank}
use Rattle.fancy_tree.specs.Names.{name_here, past_name}
use Rattle.fancy_syntax.specs.References as references
use Rattle.fancy_syntax.specs.References.{Target}
use Rattle.fancy_syntax.specs.Dialect.{Flags, Scope, in_force, with_flag, one_more_group, one_more_name, wants, reference_here, test_here, conditional_of, inside, group_of, back_to, ReadsAtom, begins_quantifier, with_part}

-- a place in a pattern: what follows, and what is in force there
pub record Place : Type 0 where
  pub text : Text
  pub scope : Scope

-- the place after the next n characters
abbrev pub place_past : ℕ → Place → Place
place_past n p = record p { text = drop n p.text }

-- this text, or where it is none the other
abbrev pub text_or : (Text → Text) → Text → Option Text → Text
text_or on t None = t
text_or on t (Some u) = on u

-- what follows n of them at most
unfoldable pub past_blanks_in : ℕ → Bool → Text → Text
past_blanks_in zero ignore_blanks t = t
past_blanks_in (suc n) ignore_blanks t = text_or (past_blanks_in n ignore_blanks) t (past_blank ignore_blanks t)

-- what follows all of them; a comment that is not closed is left
abbrev pub past_blanks : Bool → Text → Text
past_blanks ignore_blanks t = past_blanks_in (length t) ignore_blanks t

-- the place after the blanks and comments that stand here
abbrev pub after_blanks : Place → Place
after_blanks p = record p { text = past_blanks p.scope.flags.ignore_blanks p.text }

-- what a parenthesis opens
pub data Opening : Type 0 where
  -- no group: flags up to the end of the enclosing one
  setting : Opening
  -- a group that captures nothing
  plain : Opening
  -- the capturing group of this number
  capture : ℕ → Opening
  -- an atomic group, or look-around
  marked : Grouping → Opening
  -- no group, but a whole reference: whether it is folded, and how many stand before it
  reference : Bool → ℕ → Opening
  -- the body of a conditional with this condition
  chooses : Pattern → Opening
  -- a pattern that is the condition of a conditional
  condition : Opening

-- a pattern follows, and the parenthesis that closes the group
abbrev pub opens_group : Opening → Bool
opens_group setting = false
opens_group plain = true
opens_group (capture n) = true
opens_group (marked how) = true
opens_group (reference folded n) = false
opens_group (chooses c) = true
opens_group condition = false

-- a condition follows
abbrev pub asks : Opening → Bool
asks setting = false
asks plain = false
asks (capture n) = false
asks (marked how) = false
asks (reference folded n) = false
asks (chooses c) = false
asks condition = true

-- how many parentheses are open after it
abbrev pub parentheses : Opening → ℕ
parentheses setting = 1
parentheses plain = 1
parentheses (capture n) = 1
parentheses (marked how) = 1
parentheses (reference folded n) = 1
parentheses (chooses c) = 2
parentheses condition = 2

-- what a group makes of the branches inside it
abbrev pub wrap : Opening → List Pattern → Pattern
wrap setting bs = in_branches bs
wrap plain bs = in_branches bs
wrap (capture n) bs = group n (in_branches bs)
wrap (marked how) bs = group_of how (in_branches bs)
wrap (reference folded n) bs = in_branches bs
wrap (chooses c) bs = conditional_of c bs
wrap condition bs = in_branches bs

-- letters of flags, as far as they were read: the flags by now, whether the next ones are set, and whether one was read since the start or the dash
pub record LettersRead : Type 0 where
  pub flags : Flags
  pub on : Bool
  pub some : Bool

-- with one more character read
abbrev pub next_letter : Meaning → ℕ → LettersRead → Option LettersRead
next_letter m c l =
    if (code "-" == c) && l.on then Some (record { flags = l.flags; on = false; some = false })
    else option_map (λ f. record { flags = f; on = l.on; some = true }) (with_flag m l.on c l.flags)

-- the flags that are read up to a colon or a parenthesis, and the text from there on
unfoldable pub flags_in : Meaning → Text → LettersRead → Option (Flags × Text)
flags_in m [] l = None
flags_in m (c ∷ t) l =
    if c ∈ ":)" then (if l.some then Some (l.flags, c ∷ t) else None)
    else option_and_then (λ next. flags_in m t next) (next_letter m c l)

-- a colon opens a group, and a parenthesis none
abbrev pub flag_group : Place → Option (Flags × Text) → Option (Opening × Place)
flag_group p None = None
flag_group p (Some (f, [])) = None
flag_group p (Some (f, c ∷ t)) = Some (if code ":" == c then plain else setting, record { text = t; scope = in_force f p.scope })

abbrev pub first_letter : Flags → LettersRead
first_letter f = record { flags = f; on = true; some = false }

-- what the letters of flags after a parenthesis and its question mark open
abbrev pub flags_opening : Place → Option (Opening × Place)
flags_opening p = flag_group p (flags_in p.scope.meaning (drop 2 p.text) (first_letter p.scope.flags))

-- what the name that stands first in this text opens, up to its `>`
abbrev pub named_opening : Place → Text → Option (Opening × Place)
named_opening p t =
    if (length (name_here t) == 0) || not (is_at ">" (past_name t)) then None
    else Some (capture (p.scope.opened + 1), record { text = drop 1 (past_name t); scope = one_more_name (name_here t) p.scope })

-- what a parenthesis opens that no mark follows
abbrev pub unnamed_opening : Place → Opening × Place
unnamed_opening p =
    if p.scope.unnamed_capture then (capture (p.scope.opened + 1), record { text = drop 1 p.text; scope = one_more_group p.scope })
    else (plain, place_past 1 p)

-- the reference to the name that stands first in this text, up to its parenthesis
abbrev pub named_reference : Place → Text → Option (Opening × Place)
named_reference p t =
    if (length (name_here t) == 0) || not (is_at ")" (past_name t)) then None
    else Some (reference p.scope.flags.ignore_case (length p.scope.wanted), record { text = drop 1 (past_name t); scope = wants (references.called (name_here t)) p.scope })

-- the conditional that tests the group which was found at the start of this text, or else a pattern for a condition
abbrev pub by_test : Place → Text → Option (Target × Text) → Option (Opening × Place)
by_test p u None = if references.is_left_out u then None else Some (condition, record { text = u; scope = p.scope })
by_test p u (Some (w, t)) = Some (chooses (test_here p.scope), record { text = t; scope = wants w p.scope })

-- the conditional whose condition stands first in this text
abbrev pub conditional_at : Place → Text → Option (Opening × Place)
conditional_at p t = by_test p t (references.group_condition t)

-- the mark of an atomic group or of look-around, with its parenthesis, and its length
abbrev pub mark_here : Text → Option (Grouping × ℕ)
mark_here t =
    if begins "(?>" t then Some (Atomic, 3)
    else if begins "(?=" t then Some (LookAhead false, 3)
    else if begins "(?!" t then Some (LookAhead true, 3)
    else if begins "(?<=" t then Some (LookBehind false, 4)
    else if begins "(?<!" t then Some (LookBehind true, 4)
    else None

-- what the parenthesis here opens where no such mark stands, and the place after that
abbrev pub unmarked_opening : Place → Option (Opening × Place)
unmarked_opening p =
    if begins "(?<" p.text then named_opening p (drop 3 p.text)
    else if begins "(?P<" p.text then named_opening p (drop 4 p.text)
    else if begins "(?P=" p.text then named_reference p (drop 4 p.text)
    else if begins "(?(" p.text then conditional_at p (drop 3 p.text)
    else if begins "(?" p.text then flags_opening p
    else if begins "(*" p.text then None
    else Some (unnamed_opening p)

abbrev pub by_mark : Place → Option (Grouping × ℕ) → Option (Opening × Place)
by_mark p None = unmarked_opening p
by_mark p (Some m) = Some (marked m.0, record { text = drop m.1 p.text; scope = inside m.0 p.scope })

-- what the parenthesis here opens, and the place after that
abbrev pub opening_here : Place → Option (Opening × Place)
opening_here p = if begins "(?:" p.text then Some (plain, place_past 3 p) else by_mark p (mark_here p.text)

abbrev pub start : Scope → Text → Place
start s text = record { text = text; scope = s }

-- what stands here and begins with no parenthesis, and the place after it
pub data IsAtom : Place → Pattern → Place → Type 0 where
  alone : {p : Place} {a : Pattern} {t : Text} → ReadsAtom p.scope p.text a t → IsAtom p a (start p.scope t)
  refers : {p : Place} {w : Target} {t : Text} → references.read_reference p.scope.opened p.text ≡ Some (w, t) → IsAtom p (reference_here p.scope) (start (wants w p.scope) t)

-- the least and the greatest number of turns
abbrev pub RepeatBounds : Type 0
RepeatBounds = ℕ × Option ℕ

-- the bounds that stand after a brace, where it begins a count
abbrev pub bounds_in : Text → RepeatBounds
bounds_in t =
    if is_at "}" (past_digits t) then (decimal t, Some (decimal t))
    else if is_at_digit (drop 1 (past_digits t)) then (decimal t, Some (decimal (drop 1 (past_digits t))))
    else (decimal t, None)

-- what follows that count
abbrev pub past_count : Text → Text
past_count t = if is_at "}" (past_digits t) then drop 1 (past_digits t) else drop 1 (past_digits (drop 1 (past_digits t)))

-- bounds of a repeat: not reversed, and within their limit
abbrev pub are_bounds : RepeatBounds → Bool
are_bounds (low, None) = nat_le low most_turns
are_bounds (low, Some high) = nat_le low high && nat_le high most_turns

-- the number of turns that a quantifier states here
abbrev pub quantifier_here : Place → Option (RepeatBounds × Place)
quantifier_here p =
    if is_at "?" p.text then Some ((0, Some 1), place_past 1 p)
    else if is_at "*" p.text then Some ((0, None), place_past 1 p)
    else if is_at "+" p.text then Some ((1, None), place_past 1 p)
    else if begins_count p.text && are_bounds (bounds_in (drop 1 p.text)) then Some (bounds_in (drop 1 p.text), record p { text = past_count (drop 1 p.text) })
    else None

-- the kind by the suffix that stands here, if one does
abbrev pub kind : Place → Option (RepeatKind × Place)
kind p =
    if is_at "?" p.text then Some (Lazy, place_past 1 p)
    else if is_at "+" p.text then Some (Possessive, place_past 1 p)
    else Some (Greedy, p)

-- this many turns of the pattern, with the kind that stands here
abbrev pub with_kind : Pattern → Option (RepeatBounds × Place) → Option (Pattern × Place)
with_kind a None = None
with_kind a (Some (bounds, p)) = option_map (λ found. (repeat bounds.0 bounds.1 found.0 a, found.1)) (kind p)

-- the pattern with the quantifier that stands here, if one does
abbrev pub with_quantifier : Pattern → Place → Option (Pattern × Place)
with_quantifier a p =
    if not (begins_quantifier (after_blanks p).text) then Some (a, p)
    else if is_empty a then None
    else with_kind a (quantifier_here (after_blanks p))

-- the place after a group, which was opened outside and whose inside ends at q
abbrev pub after_group : Place → Place → Place
after_group outside q = record { text = drop 1 q.text; scope = back_to outside.scope q.scope }

-- nothing more belongs to this branch
abbrev pub ends_branch : Text → Bool
ends_branch [] = true
ends_branch (c ∷ t) = c ∈ "|)"

-- The number says how many parentheses more may be open at one place.
mutual
  -- branches, joined by `|`, up to the end of the group or the pattern
  pub data BranchesReading : ℕ → Place → List Pattern → Place → Type 0 where
    last : {k : ℕ} {p q : Place} {ps : List Pattern} → PartsReading k p ps q → is_at "|" q.text ≡ false → BranchesReading k p (in_sequence ps ∷ []) q
    more : {k : ℕ} {p q r : Place} {ps bs : List Pattern} → PartsReading k p ps q → is_at "|" q.text ≡ true → BranchesReading k (place_past 1 q) bs r → BranchesReading k p (in_sequence ps ∷ bs) r

  -- the parts of one branch
  pub data PartsReading : ℕ → Place → List Pattern → Place → Type 0 where
    none : {k : ℕ} {p : Place} → ends_branch (after_blanks p).text ≡ true → PartsReading k p [] (after_blanks p)
    next : {k : ℕ} {p q r : Place} {item : Option Pattern} {ps : List Pattern} → ends_branch (after_blanks p).text ≡ false → ItemReading k (after_blanks p) item q → PartsReading k q ps r → PartsReading k p (with_part item ps) r

  -- what can be quantified, with its quantifier
  pub data ItemReading : ℕ → Place → Option Pattern → Place → Type 0 where
    sets : {k : ℕ} {p q : Place} → is_at "(" p.text ≡ true → Opens k p setting q → ItemReading k p None q
    refers_by_name : {k n : ℕ} {p q r : Place} {folded : Bool} {x : Pattern} → is_at "(" p.text ≡ true → Opens k p (reference folded n) q → with_quantifier (backreference folded n) q ≡ Some (x, r)
        → ItemReading k p (Some x) r
    single : {k : ℕ} {p q r : Place} {a x : Pattern} → is_at "(" p.text ≡ false → IsAtom p a q → with_quantifier a q ≡ Some (x, r) → ItemReading k p (Some x) r
    grouped : {k : ℕ} {p inside q r : Place} {how : Opening} {bs : List Pattern} {x : Pattern} → is_at "(" p.text ≡ true → Opens (suc k) p how inside → opens_group how ≡ true
        → BranchesReading k inside bs q → is_at ")" q.text ≡ true → with_quantifier (wrap how bs) (after_group p q) ≡ Some (x, r) → ItemReading (suc k) p (Some x) r

  -- what a parenthesis opens, after its condition if it has one, where so many may still be open
  pub data Opens : ℕ → Place → Opening → Place → Type 0 where
    at_once : {k : ℕ} {p inside : Place} {how : Opening} → opening_here p ≡ Some (how, inside) → asks how ≡ false → parentheses how ≤ suc k → Opens (suc k) p how inside
    after_condition : {k : ℕ} {p inside q : Place} {cs : List Pattern} → opening_here p ≡ Some (condition, inside) → BranchesReading k inside cs q → is_at ")" q.text ≡ true → Opens (suc (suc k)) p (chooses (in_branches cs)) (after_group p q)

-- the whole text has this pattern, with at most so many parentheses open at one place
pub record Reads (s : Scope) (text : Text) (p : Pattern) (end : Place) : Type 0 where
  pub branches : List Pattern
  pub is : p ≡ in_branches branches
  pub reads : BranchesReading most_parentheses (start s text) branches end
  pub all : end.text ≡ []
