-- The dialect, over whole texts: which text spells which pattern. `after` is what follows the text in the whole pattern, so that each case can say that no longer form begins at its place; therefore the cases exclude one another, and a text spells at most one pattern.
use Rattle.std.specs.Prelude.{◌≡◌, ℕ, suc, ◌+◌, ◌≤◌, ◌==◌, nat_lt, Bool, true, false, not, ◌&&◌, ◌||◌, List, [], ◌∷◌, ◌++◌, length, All, Option, Some, None, codes, map, encode_utf8, if◌then◌else◌}
use Prim.Native.Char.{code}
use Rattle.std.specs.Option.{unwrap_or, option_map, option_or, option_and_then}
use Rattle.fancy_tree.specs.Limits.{most_parentheses, most_turns, most_nodes}
use Rattle.fancy_tree.specs.declared.tree.Meaning.{Meaning}
use Rattle.fancy_tree.specs.declared.tree.Meaning.TheVariants.{Unicode, Bytes, AsciiText}
use Rattle.fancy_tree.specs.declared.tree.Assertion.{Assertion}
use Rattle.fancy_tree.specs.declared.tree.Assertion.TheVariants.{TextStart, TextEnd, LineStart, LineEnd, LineStartCrlf, LineEndCrlf, LastLine, LastLineCrlf, WordBoundary, NotWordBoundary, WordStart, WordEnd, WordStartHalf, WordEndHalf}
use Rattle.fancy_tree.specs.declared.tree.RepeatKind.{RepeatKind}
use Rattle.fancy_tree.specs.declared.tree.RepeatKind.TheVariants.{Greedy, Lazy, Possessive}
use Rattle.fancy_syntax.specs.declared.groups.Grouping.{Grouping}
use Rattle.fancy_syntax.specs.declared.groups.Grouping.TheVariants.{Atomic, LookAhead, LookBehind}
use Rattle.fancy_class.specs.declared.class_item.ClassItem.{ClassItem}
use Rattle.fancy_class.specs.declared.class_item.ClassItem.TheVariants.{NamedSet}
use Rattle.fancy_tree.specs.declared.named.Named.{Named}
use Rattle.fancy_tree.specs.Pattern.{Pattern, empty, character, member_of, in_any_case, raw_byte, backreference, assertion, group_test, keep_start, continue_here, group, repeat, look_ahead, look_behind, atomic, conditional, in_sequence, in_branches}
use Rattle.fancy_tree.specs.Sizes.{size, nodes, are_sized, is_empty}
use Rattle.fancy_tree.specs.Text.{Text, ◌∈◌, is_among}
use Rattle.fancy_class.specs.Words.{is_at, by_word}
use Rattle.fancy_syntax.specs.Counts.{is_at_digit, decimal, are_digits, begins_count}
use Rattle.fancy_syntax.specs.Blanks.{is_blank, past_blank}
use Rattle.fancy_tree.specs.Sets.{has, AreEdges, in_range}
use Rattle.fancy_tree.specs.Members.{Members}
use Rattle.fancy_tree.specs.Named.{in_universe, is_unicode}
use Rattle.fancy_tree.specs.Widening.{case_closure}
use Rattle.fancy_class.specs.EscapeGrammar.{is_mark, control_of, set_letter, escape_number, takes_number, digits_after}
use Rattle.fancy_class.specs.ClassGrammar.{ReadsEdges, is_ascii_meaning, may_negate, item_members, property}
use Rattle.fancy_tree.specs.Names.{is_name}
use Rattle.fancy_syntax.specs.References as references
use Rattle.fancy_syntax.specs.References.{Target, called, within_largest, ReferenceFault, Groups, is_left_out, group_for}
use Rattle.fancy_tree.specs.Refers.{number_in, refers_to}

-- the flags `i m s x R`
pub record Flags : Type 0 where
  pub ignore_case : Bool
  pub multi_line : Bool
  pub dot_all : Bool
  pub ignore_blanks : Bool
  pub crlf : Bool

-- what is in force at a place of a pattern
pub record Scope : Type 0 where
  pub meaning : Meaning
  -- bytes are never items of their own: matches keep to whole characters
  pub keeps_characters : Bool
  -- groups without a name capture
  pub unnamed_capture : Bool
  pub flags : Flags
  -- how many capturing groups were opened before it
  pub opened : ℕ
  -- the named ones among them, in the order of their openings
  pub names : List (Text × ℕ)
  -- what the references before it name, in their order
  pub wanted : List Target
  pub in_look_around : Bool

-- these flags are in force from here on
abbrev pub in_force : Flags → Scope → Scope
in_force f s = record s { flags = f }

abbrev pub agrees : Bool → Bool → Bool
agrees true y = y
agrees false y = not y

-- The flags with this letter's set, or cleared; none where it is no letter of a flag. `u` changes nothing: it states whether items are characters of all of Unicode, and must state what holds.
abbrev pub with_flag : Meaning → Bool → ℕ → Flags → Option Flags
with_flag m on c f =
    if code "i" == c then Some (record f { ignore_case = on })
    else if code "m" == c then Some (record f { multi_line = on })
    else if code "s" == c then Some (record f { dot_all = on })
    else if code "x" == c then Some (record f { ignore_blanks = on })
    else if code "R" == c then Some (record f { crlf = on })
    else if (code "u" == c) && agrees on (is_unicode m) then Some f
    else None

-- letters of flags, each of which is set, or cleared, in turn
pub data FlagLetters : Meaning → Bool → Text → Flags → Flags → Type 0 where
  no_letter : {m : Meaning} {on : Bool} {f : Flags} → FlagLetters m on [] f f
  letter : {m : Meaning} {on : Bool} {t : Text} {f g h : Flags} (c : ℕ) → with_flag m on c f ≡ Some g → FlagLetters m on t g h → FlagLetters m on (c ∷ t) f h

-- letters of the flags that are set, and after a dash of those that are cleared: at least one, and at least one after the dash
pub data Setting : Meaning → Text → Flags → Flags → Type 0 where
  setting_on : {m : Meaning} {t : Text} {f g : Flags} (c : ℕ) → FlagLetters m true (c ∷ t) f g → Setting m (c ∷ t) f g
  setting_off : {m : Meaning} {t u : Text} {f g h : Flags} (c : ℕ) → FlagLetters m true t f g → FlagLetters m false (c ∷ u) g h → Setting m (t ++ (codes "-" ++ (c ∷ u))) f h

-- one more capturing group was opened
abbrev pub one_more_group : Scope → Scope
one_more_group s = record s { opened = s.opened + 1 }

-- one more capturing group was opened, which has this name
abbrev pub one_more_name : Text → Scope → Scope
one_more_name n s = record s { opened = s.opened + 1; names = s.names ++ ((n, s.opened + 1) ∷ []) }

-- one more reference was written, to this
abbrev pub wants : Target → Scope → Scope
wants w s = record s { wanted = s.wanted ++ (w ∷ []) }

-- A reference, as it is written: in the place of its group's number stands how many references were written before it.
abbrev pub reference_here : Scope → Pattern
reference_here s = backreference s.flags.ignore_case (length s.wanted)

-- A test of a group, as it is written: in the place of the group's number stands how many references were written before it.
abbrev pub test_here : Scope → Pattern
test_here s = group_test (length s.wanted)

-- The conditional of this condition: its first branch where the condition holds, and the others, joined by `|`, where it does not.
abbrev pub conditional_of : Pattern → List Pattern → Pattern
conditional_of c [] = conditional c empty empty
conditional_of c (b ∷ bs) = conditional c b (in_branches bs)

-- in force in such a group
abbrev pub inside : Grouping → Scope → Scope
inside Atomic s = s
inside (LookAhead negated) s = record s { in_look_around = true }
inside (LookBehind negated) s = record s { in_look_around = true }

-- what such a group makes of the pattern inside it
abbrev pub group_of : Grouping → Pattern → Pattern
group_of Atomic p = atomic p
group_of (LookAhead negated) p = look_ahead negated p
group_of (LookBehind negated) p = look_behind negated p

-- after a group the flags are those from before it, and the groups and references inside it count
abbrev pub back_to : Scope → Scope → Scope
back_to before inside = record inside { flags = before.flags; in_look_around = before.in_look_around }

-- these characters stand for themselves only where they are escaped
abbrev pub must_be_escaped : ℕ → Bool
must_be_escaped c = c ∈ "|()*+?\\.^$["

-- the characters that a backslash makes literals
abbrev pub is_escapable : ℕ → Bool
is_escapable c = is_mark c && not (c ∈ "<>")

-- what `^` and `$` test: the text's ends, or those of lines
abbrev pub anchor_of : Flags → ℕ → Option Assertion
anchor_of f c =
    if code "^" == c then Some (if f.multi_line then (if f.crlf then LineStartCrlf else LineStart) else TextStart)
    else if code "$" == c then Some (if f.multi_line then (if f.crlf then LineEndCrlf else LineEnd) else TextEnd)
    else None

-- what `\A`, `\z`, `\Z`, `\B`, `\<` and `\>` test
abbrev pub place_test : Flags → ℕ → Option Assertion
place_test f d =
    if code "A" == d then Some TextStart
    else if code "z" == d then Some TextEnd
    else if code "Z" == d then Some (if f.crlf then LastLineCrlf else LastLine)
    else if code "B" == d then Some NotWordBoundary
    else if code "<" == d then Some WordStart
    else if code ">" == d then Some WordEnd
    else None

-- what `\b` tests where one of these words stands after it
abbrev pub boundary_words : List (Text × Assertion)
boundary_words = (codes "{start}", WordStart) ∷ (codes "{end}", WordEnd) ∷ (codes "{start-half}", WordStartHalf) ∷ (codes "{end-half}", WordEndHalf) ∷ []

-- what `\b` tests, by the word after it, and what follows
abbrev pub boundary : Text → Assertion × Text
boundary t = unwrap_or (by_word boundary_words t) (WordBoundary, t)

-- what `\G` and `\K` stand for; inside of look-around `\K` stands for nothing
abbrev pub start_mark : Bool → ℕ → Option Pattern
start_mark in_look_around d =
    if code "G" == d then Some continue_here
    else if (code "K" == d) && not in_look_around then Some keep_start
    else None

-- a literal character: one item, but in byte meaning the sequence of its bytes
abbrev pub literal_of : Meaning → ℕ → Pattern
literal_of Unicode c = character c
literal_of Bytes c = in_sequence (map character (encode_utf8 c))
literal_of AsciiText c = character c

-- What stands for itself: a pattern, one item of a set with these members, or a literal under flag `i` with these characters that share its folding.
pub data Lexeme : Type 0 where
  leaf : Pattern → Lexeme
  one_of : Members → Lexeme
  any_case_of : Members → Lexeme

-- This is the pattern. A set has one list of edges.
pub data IsMeant : Lexeme → Pattern → Type 0 where
  by_itself : {a : Pattern} → IsMeant (leaf a) a
  by_edges : {f : Members} {es : List ℕ} → AreEdges es → ((c : ℕ) → has es c ≡ f c) → IsMeant (one_of f) (member_of es)
  by_folding : {f : Members} {es : List ℕ} → AreEdges es → ((c : ℕ) → has es c ≡ f c) → IsMeant (any_case_of f) (in_any_case es)

-- the character is one item, so that flag `i` can give it others
abbrev pub is_one_item : Meaning → ℕ → Bool
is_one_item Unicode c = true
is_one_item Bytes c = nat_lt c 128
is_one_item AsciiText c = true

-- a character, under flag `i` with those that share its simple folding
abbrev pub character_lexeme : Scope → ℕ → Lexeme
character_lexeme s c =
    if s.flags.ignore_case && is_one_item s.meaning c
    then any_case_of (case_closure s.meaning (in_range (c, c)))
    else leaf (literal_of s.meaning c)

-- A character by its number. Where matches may stand anywhere two digits after `x` are a byte, if it is no ASCII.
abbrev pub character_by_number : Scope → ℕ × Bool → Lexeme
character_by_number s n = if n.1 && (nat_lt 127 n.0 && not s.keeps_characters) then leaf (raw_byte n.0) else character_lexeme s n.0

abbrev pub ends_line : Bool → ℕ → Bool
ends_line crlf c = (c == code "\n") || (crlf && (c == code "\r"))

-- the numbers that any item can consume, or any but one that ends a line
abbrev pub any_item_members : Scope → Bool → Members
any_item_members s all = λ c. in_universe s.meaning c && (all || not (ends_line s.flags.crlf c))

abbrev pub any_item : Scope → Bool → Option Lexeme
any_item s all = if is_ascii_meaning s.meaning then None else Some (one_of (any_item_members s all))

-- a set with the members that this stands for in a class
abbrev pub class_item_lexeme : Scope → ClassItem → Lexeme
class_item_lexeme s x = one_of (item_members s.meaning s.flags.ignore_case x)

-- the set of a letter, or its complement
abbrev pub set_lexeme : Scope → Named × Bool → Option Lexeme
set_lexeme s n = if may_negate s.meaning n.1 then Some (class_item_lexeme s (NamedSet n.0 n.1)) else None

-- what a letter alone stands for after a backslash
abbrev pub letter_lexeme : Scope → ℕ → Option Lexeme
letter_lexeme s d =
    option_or (option_map (character_lexeme s) (control_of d))
    (option_or (option_map (λ a. leaf (assertion a)) (place_test s.flags d))
    (option_or (option_map leaf (start_mark s.in_look_around d))
    (option_and_then (set_lexeme s) (set_letter d))))

abbrev pub followed_by : Text → Option Lexeme → Option (Lexeme × Text)
followed_by t o = option_map (λ x. (x, t)) o

abbrev pub number_lexeme : Scope → ℕ → Text → Option (Lexeme × Text)
number_lexeme s count t = option_map (λ r. (character_by_number s r.0, r.1)) (escape_number count t)

abbrev pub boundary_here : Text → Lexeme × Text
boundary_here t = (leaf (assertion (boundary t).0), (boundary t).1)

abbrev pub property_here : Scope → Text → Option (Lexeme × Text)
property_here s t = option_map (λ r. (class_item_lexeme s r.0, r.1)) (property s.meaning t)

-- what a backslash, this character and the text after it begin with, and what follows that
abbrev pub escape : Scope → ℕ → Text → Option (Lexeme × Text)
escape s d t =
    if is_escapable d then Some (character_lexeme s d, t)
    else if code "b" == d then Some (boundary_here t)
    else if takes_number d then number_lexeme s (digits_after d) t
    else if code "O" == d then followed_by t (any_item s true)
    else if code "N" == d then followed_by t (any_item s false)
    else if (code "p" == d) || (code "P" == d) then property_here s (codes "\\" ++ (d ∷ t))
    else followed_by t (letter_lexeme s d)

abbrev pub escape_in : Scope → Text → Option (Lexeme × Text)
escape_in s [] = None
escape_in s (d ∷ t) = escape s d t

-- a character that stands for itself, or for a place
abbrev pub unescaped_lexeme : Scope → ℕ → Text → Option Lexeme
unescaped_lexeme s c t =
    option_or (option_map (λ a. leaf (assertion a)) (anchor_of s.flags c))
    (if must_be_escaped c || begins_count (c ∷ t) then None else Some (character_lexeme s c))

abbrev pub unescaped_here : Scope → ℕ → Text → Option (Lexeme × Text)
unescaped_here s c t = followed_by t (unescaped_lexeme s c t)

-- the character or escape at the start of a text, and what follows it
abbrev pub lexeme : Scope → Text → Option (Lexeme × Text)
lexeme s [] = None
lexeme s (c ∷ t) =
    if code "\\" == c then escape_in s t
    else if code "." == c then followed_by t (any_item s s.flags.dot_all)
    else unescaped_here s c t

-- A text begins with this atom, which is no group: a character, an escape or a class. The last index is what follows it.
pub data ReadsAtom : Scope → Text → Pattern → Text → Type 0 where
  by_lexeme : {s : Scope} {t u : Text} {x : Lexeme} {a : Pattern} → lexeme s t ≡ Some (x, u) → IsMeant x a → ReadsAtom s t a u
  by_class : {s : Scope} {t u : Text} {es : List ℕ} → is_at "[" t ≡ true → ReadsEdges s.meaning s.flags.ignore_case t es u → ReadsAtom s t (member_of es) u

-- a quantifier begins here
abbrev pub begins_quantifier : Text → Bool
begins_quantifier t = is_at "?*+" t || begins_count t

-- a row of digits, as a bound of a count
pub record IsBound (t : Text) : Type 0 where
  pub some : is_at_digit t ≡ true
  pub digits : are_digits t ≡ true
  pub small : decimal t ≤ most_turns

-- this text states the least and the greatest number of turns
pub data Quantifier : Text → ℕ → Option ℕ → Type 0 where
  optional : Quantifier (codes "?") 0 (Some 1)
  asterisk : Quantifier (codes "*") 0 None
  plus : Quantifier (codes "+") 1 None
  exactly : (n : Text) → IsBound n → Quantifier (codes "{" ++ (n ++ codes "}")) (decimal n) (Some (decimal n))
  at_least : (n : Text) → IsBound n → Quantifier (codes "{" ++ (n ++ codes ",}")) (decimal n) None
  between : (n m : Text) → IsBound n → IsBound m → decimal n ≤ decimal m → Quantifier (codes "{" ++ (n ++ (codes "," ++ (m ++ codes "}")))) (decimal n) (Some (decimal m))
  at_most : (m : Text) → IsBound m → Quantifier (codes "{," ++ (m ++ codes "}")) 0 (Some (decimal m))

-- this text is a quantifier, the longest that stands at its place: the least and the greatest number of turns, and the kind
pub data Quantifies : Text → Text → ℕ → Option ℕ → RepeatKind → Type 0 where
  greedily : {t after : Text} {low : ℕ} {high : Option ℕ} → Quantifier t low high → is_at "?+" after ≡ false → Quantifies t after low high Greedy
  lazily : {t after : Text} {low : ℕ} {high : Option ℕ} → Quantifier t low high → Quantifies (t ++ codes "?") after low high Lazy
  possessively : {t after : Text} {low : ℕ} {high : Option ℕ} → Quantifier t low high → Quantifies (t ++ codes "+") after low high Possessive

-- This text is a comment, or where the flag is set a blank or a line after `#`; at the pattern's end the line needs no line feed.
pub data Blank : Bool → Text → Text → Type 0 where
  comment : {ignore_blanks : Bool} {after : Text} (inside : Text) → is_among (code ")") inside ≡ false → Blank ignore_blanks (codes "(?#" ++ (inside ++ codes ")")) after
  blank : {after : Text} (c : ℕ) → is_blank c ≡ true → Blank true (c ∷ []) after
  line : {after : Text} (inside : Text) → is_among (code "\n") inside ≡ false → Blank true (codes "#" ++ (inside ++ codes "\n")) after
  last_line : (inside : Text) → is_among (code "\n") inside ≡ false → Blank true (codes "#" ++ inside) []

-- a row of them, perhaps empty, which is skipped
pub data Blanks : Bool → Text → Text → Type 0 where
  no_blank : {ignore_blanks : Bool} {after : Text} → Blanks ignore_blanks [] after
  blanks : {ignore_blanks : Bool} {t u after : Text} → Blank ignore_blanks t (u ++ after) → Blanks ignore_blanks u after → Blanks ignore_blanks (t ++ u) after

-- no quantifier stands here, not after blanks either
abbrev pub IsUnquantified : Bool → Text → Type 0
IsUnquantified ignore_blanks after = (t u : Text) → after ≡ t ++ u → Blanks ignore_blanks t u → begins_quantifier u ≡ false

-- what stands between the question mark of a group and its name
pub data NameMark : Text → Type 0 where
  name_mark : NameMark (codes "<")
  name_mark_after_p : NameMark (codes "P<")

-- what stands between the parenthesis and the pattern of a group that captures nothing, and is not plain
pub data GroupMark : Text → Grouping → Type 0 where
  mark_atomic : GroupMark (codes "?>") Atomic
  mark_ahead : GroupMark (codes "?=") (LookAhead false)
  mark_not_ahead : GroupMark (codes "?!") (LookAhead true)
  mark_behind : GroupMark (codes "?<=") (LookBehind false)
  mark_not_behind : GroupMark (codes "?<!") (LookBehind true)

-- This text, between the parentheses of a condition, tests a group: its number, or its name in `<>` or quotes.
pub data Condition : Text → Target → Type 0 where
  group_number : (n : Text) → is_at_digit n ≡ true → are_digits n ≡ true → Condition n (within_largest (decimal n))
  group_name : (n : Text) → is_name n ≡ true → Condition (codes "<" ++ (n ++ codes ">")) (called n)
  quoted_name : (n : Text) → is_name n ≡ true → Condition (codes "'" ++ (n ++ codes "'")) (called n)

-- no test of a group stands here, with a parenthesis after it
abbrev pub TestsNoGroup : Text → Type 0
TestsNoGroup text = (c after : Text) (w : Target) → text ≡ c ++ (codes ")" ++ after) → ¬ Condition c w

-- what follows a condition: its parenthesis, the branches, and the conditional's own
abbrev pub past_condition : Text → Text → Text
past_condition t after = codes ")" ++ (t ++ (codes ")" ++ after))

-- an item gives a sequence one part, or none
abbrev pub with_part : Option Pattern → List Pattern → List Pattern
with_part None ps = ps
with_part (Some p) ps = p ∷ ps

-- The number k says how many parentheses more may be open at one place; `s` is what is in force before the text, and the last index what is in force after it.
mutual
  -- branches joined by `|`
  pub data Branches : ℕ → Scope → Text → Text → List Pattern → Scope → Type 0 where
    one : {k : ℕ} {s r : Scope} {t after : Text} {ps : List Pattern} → Parts k s t after ps r → Branches k s t after (in_sequence ps ∷ []) r
    either : {k : ℕ} {s q r : Scope} {t u after : Text} {ps bs : List Pattern} → Parts k s t (codes "|" ++ (u ++ after)) ps q → Branches k q u after bs r
        → Branches k s (t ++ (codes "|" ++ u)) after (in_sequence ps ∷ bs) r

  -- items, one after another, with blanks before and after them
  pub data Parts : ℕ → Scope → Text → Text → List Pattern → Scope → Type 0 where
    nothing : {k : ℕ} {s : Scope} {t after : Text} → Blanks s.flags.ignore_blanks t after → Parts k s t after [] s
    item : {k : ℕ} {s q r : Scope} {t u v after : Text} {x : Option Pattern} {ps : List Pattern} → Blanks s.flags.ignore_blanks t (u ++ (v ++ after)) → Item k s u (v ++ after) x q
        → Parts k q v after ps r → Parts k s (t ++ (u ++ v)) after (with_part x ps) r

  -- a setting of flags, or an atom, perhaps with a quantifier, and blanks between the two
  pub data Item : ℕ → Scope → Text → Text → Option Pattern → Scope → Type 0 where
    -- a setting of flags gives no part, and holds up to the end of the enclosing group
    set : {k : ℕ} {s : Scope} {t after : Text} {f : Flags} → Setting s.meaning t s.flags f → Item (suc k) s (codes "(?" ++ (t ++ codes ")")) after None (in_force f s)
    bare : {k : ℕ} {s q : Scope} {t after : Text} {a : Pattern} → Atom k s t after a q → IsUnquantified q.flags.ignore_blanks after → Item k s t after (Some a) q
    quantified : {k low : ℕ} {high : Option ℕ} {kind : RepeatKind} {s q : Scope} {t u v after : Text} {a : Pattern} → Atom k s t (u ++ (v ++ after)) a q → is_empty a ≡ false
        → Blanks q.flags.ignore_blanks u (v ++ after) → Quantifies v after low high kind → Item k s (t ++ (u ++ v)) after (Some (repeat low high kind a)) q

  -- a character, an escape, a class, a group, a conditional or a reference to a group
  pub data Atom : ℕ → Scope → Text → Text → Pattern → Scope → Type 0 where
    single : {k : ℕ} {s : Scope} {t after : Text} {a : Pattern} → past_blank s.flags.ignore_blanks (t ++ after) ≡ None → ReadsAtom s (t ++ after) a after → Atom k s t after a s
    plain : {k : ℕ} {s q : Scope} {t after : Text} {bs : List Pattern} → Branches k s t (codes ")" ++ after) bs q
        → Atom (suc k) s (codes "(?:" ++ (t ++ codes ")")) after (in_branches bs) (back_to s q)
    flagged : {k : ℕ} {s q : Scope} {u t after : Text} {f : Flags} {bs : List Pattern} → Setting s.meaning u s.flags f → Branches k (in_force f s) t (codes ")" ++ after) bs q
        → Atom (suc k) s (codes "(?" ++ (u ++ (codes ":" ++ (t ++ codes ")")))) after (in_branches bs) (back_to s q)
    -- the groups that capture are numbered from 1 by their openings
    capture : {k : ℕ} {s q : Scope} {t after : Text} {bs : List Pattern} → s.unnamed_capture ≡ true → is_at "?*" (t ++ (codes ")" ++ after)) ≡ false → Branches k (one_more_group s) t (codes ")" ++ after) bs q
        → Atom (suc k) s (codes "(" ++ (t ++ codes ")")) after (group (s.opened + 1) (in_branches bs)) (back_to s q)
    -- where groups without a name do not capture, they take no number
    unnamed : {k : ℕ} {s q : Scope} {t after : Text} {bs : List Pattern} → s.unnamed_capture ≡ false → is_at "?*" (t ++ (codes ")" ++ after)) ≡ false → Branches k s t (codes ")" ++ after) bs q
        → Atom (suc k) s (codes "(" ++ (t ++ codes ")")) after (in_branches bs) (back_to s q)
    -- a group with a name is numbered with the others
    named : {k : ℕ} {s q : Scope} {m t after : Text} {bs : List Pattern} (n : Text) → NameMark m → is_name n ≡ true → Branches k (one_more_name n s) t (codes ")" ++ after) bs q
        → Atom (suc k) s (codes "(?" ++ (m ++ (n ++ (codes ">" ++ (t ++ codes ")"))))) after (group (s.opened + 1) (in_branches bs)) (back_to s q)
    -- atomic groups and look-around
    marked : {k : ℕ} {s q : Scope} {m t after : Text} {how : Grouping} {bs : List Pattern} → GroupMark m how → Branches k (inside how s) t (codes ")" ++ after) bs q
        → Atom (suc k) s (codes "(" ++ (m ++ (t ++ codes ")"))) after (group_of how (in_branches bs)) (back_to s q)
    -- a conditional that tests a group; two parentheses are open in its condition, and one in its body
    tested : {k : ℕ} {s q : Scope} {t after : Text} {w : Target} {bs : List Pattern} (c : Text) → Condition c w → Branches (suc k) (wants w s) t (codes ")" ++ after) bs q
        → Atom (suc (suc k)) s (codes "(?(" ++ (c ++ (codes ")" ++ (t ++ codes ")")))) after (conditional_of (test_here s) bs) (back_to s q)
    -- a conditional whose condition is a pattern; flags that are set in the condition end with it
    decided : {k : ℕ} {s r q : Scope} {t after : Text} {cs bs : List Pattern} (c : Text) → TestsNoGroup (c ++ past_condition t after) → is_left_out (c ++ past_condition t after) ≡ false
        → Branches k s c (past_condition t after) cs r → Branches (suc k) (back_to s r) t (codes ")" ++ after) bs q
        → Atom (suc (suc k)) s (codes "(?(" ++ (c ++ (codes ")" ++ (t ++ codes ")")))) after (conditional_of (in_branches cs) bs) (back_to s q)
    -- references may name groups that are opened only after them
    reference : {k : ℕ} {s : Scope} {t after : Text} {w : Target} → references.read_reference s.opened (t ++ after) ≡ Some (w, after) → Atom k s t after (reference_here s) (wants w s)
    reference_by_name : {k : ℕ} {s : Scope} {after : Text} (n : Text) → is_name n ≡ true → Atom (suc k) s (codes "(?P=" ++ (n ++ codes ")")) after (reference_here s) (wants (called n) s)

-- the whole text spells this pattern, with at most so many parentheses open at one place
pub record Spells (start : Scope) (text : Text) (p : Pattern) (end : Scope) : Type 0 where
  pub branches : List Pattern
  pub is : p ≡ in_branches branches
  pub spelled : Branches most_parentheses start text [] branches end

-- the options that a pattern is read under
pub record DialectOptions : Type 0 where
  pub meaning : Meaning
  pub keeps_characters : Bool
  -- where a group has a name, those without capture nothing
  pub only_named : Bool
  -- empty matches are refused
  pub not_empty : Bool
  pub flags : Flags

abbrev pub no_flags : Flags
no_flags = record { ignore_case = false; multi_line = false; dot_all = false; ignore_blanks = false; crlf = false }

abbrev pub standard : DialectOptions
standard = record { meaning = Unicode; keeps_characters = true; only_named = false; not_empty = false; flags = no_flags }

-- what is in force where a pattern begins, by whether its groups without a name capture
abbrev pub begin : Bool → DialectOptions → Scope
begin captures o = record { meaning = o.meaning; keeps_characters = o.keeps_characters; unnamed_capture = captures; flags = o.flags; opened = 0; names = []; wanted = []; in_look_around = false }

-- a group has a name
abbrev pub has_name : List (Text × ℕ) → Bool
has_name [] = false
has_name (g ∷ names) = true

-- The text spells this pattern under these options. Its groups without a name capture, but not where only those with a name are to and there is one.
pub record SpellsUnder (o : DialectOptions) (text : Text) (p : Pattern) (end : Scope) : Type 0 where
  pub unnamed : Bool
  pub spelled : Spells (begin unnamed o) text p end
  pub settled : unnamed ≡ not (o.only_named && has_name end.names)

-- the groups that references are resolved by, from where the pattern ends
abbrev pub groups_at : DialectOptions → Scope → Groups
groups_at o end = record { by_name = o.only_named && has_name end.names; opened = end.opened; names = end.names }

-- why this reference of the pattern that ends here names no group
abbrev pub fault_in_scope : DialectOptions → Scope → Target → Option ReferenceFault
fault_in_scope o end w = references.target_fault (groups_at o end) w

-- the group that each reference names, by how many were written before it
abbrev pub numbers : DialectOptions → Scope → ℕ → ℕ
numbers o end = number_in (map (group_for (groups_at o end)) end.wanted)

-- The text is a pattern of the dialect: it spells this one, whose references each name a group, whose look-behind has sizes, which can match where empty matches are refused, and which is not too complex.
pub record IsPattern (o : DialectOptions) (text : Text) (p : Pattern) : Type 0 where
  pub written : Pattern
  pub end : Scope
  pub spelled : SpellsUnder o text written end
  pub is : p ≡ refers_to (numbers o end) written
  pub resolved : All (λ w. fault_in_scope o end w ≡ None) end.wanted
  pub sized : are_sized o.meaning p ≡ true
  pub fills : o.not_empty ≡ true → (size o.meaning p ≡ Some 0) → ⊥
  pub small : nodes p ≤ most_nodes
