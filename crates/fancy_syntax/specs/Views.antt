-- What the parser's functions promise each other.
use Rattle.std.specs.Prelude.{Vec, ◌≡◌, ℕ, ◌+◌, ◌-◌, ◌≤◌, ◌^◌, min, Bool, true, false, ◌&&◌, List, length, take, drop, sum_by, Option, Some, None, option_map, Result, Ok, Err, map, All, Any, chars, string_bytes}
use Rattle.std.specs.Borrow.{Bor}
use Rattle.std.specs.Global.{Global}
use Rattle.std.specs.Char.{len_utf8}
use Rattle.fancy_syntax.specs.declared.parser.Parser.{Parser}
use Rattle.fancy_tree.specs.declared.error.Error.{Error}
use Rattle.fancy_tree.specs.declared.error.Error.TheVariants.{Memory, ParseError, CompileError, RuntimeError}
use Rattle.fancy_syntax.specs.declared.groups.Opening.{Opening as Found}
use Rattle.fancy_syntax.specs.declared.groups.Opening.TheVariants.{Setting, Plain, Capture, Marked, Reference, Chooses, Condition}
use Rattle.fancy_syntax.specs.declared.reference.Target.{Target as Found_target}
use Rattle.fancy_syntax.specs.declared.reference.Target.TheVariants.{Numbered, Missing, Called, CalledOrNumbered}
use Rattle.fancy_syntax.specs.declared.resolve.Groups.{Groups as Found_groups}
use Rattle.fancy_syntax.specs.declared.flags.FlagReader.{FlagReader}
use Rattle.fancy_syntax.specs.declared.count.Turns.{Turns}
use Rattle.fancy_syntax.specs.declared.flags.Flags.{Flags as Found_flags}
use Rattle.fancy_syntax.specs.declared.parse.ParseOptions.{ParseOptions}
use Rattle.fancy_syntax.specs.declared.parse.Draft.{Draft}
use Rattle.fancy_tree.specs.declared.error.CompileError.{CompileError as Compiling}
use Rattle.fancy_tree.specs.declared.error.CompileError.TheVariants.{InvalidBackref, InvalidGroupNameBackref, NamedBackrefOnly, LookBehindNotConst, PatternCanNeverMatch}
use Rattle.fancy_class.specs.declared.refusal.ClassRefusal.{ClassRefusal}
use Rattle.fancy_class.specs.declared.refusal.ClassRefusal.TheVariants.{Memory as OutOfMemory, Invalid}
use Rattle.fancy_class.specs.Readings.{IsTheReading, HasNoReading}
use Rattle.fancy_tree.specs.declared.tree.Tree.{Tree}
use Rattle.fancy_tree.specs.Pattern.{Pattern, pattern_of, in_sequence, in_branches}
use Rattle.fancy_tree.specs.Sizes.{size, are_sized}
use Rattle.fancy_tree.specs.Text.{Text}
use Rattle.fancy_tree.specs.Names.{named_groups}
use Rattle.fancy_tree.specs.GroupNames.{names_of}
use Rattle.fancy_tree.specs.Refers.{number_in}
use Rattle.fancy_syntax.specs.References.{Target, numbered, missing, called, called_or_numbered, ReferenceFault, by_name_alone, no_number, no_name, Groups, target_fault, group_for}
use Rattle.fancy_syntax.specs.Flags.{flags_of}
use Rattle.fancy_syntax.specs.Dialect.{Flags, Scope, DialectOptions, has_name, Lexeme, IsMeant, followed_by}
use Rattle.fancy_syntax.specs.Grammar.{Place, start, Opening, setting, plain, capture, marked, reference, chooses, condition, parentheses, opening_here, Opens, LettersRead, RepeatBounds, BranchesReading, PartsReading}

abbrev pub letters_of : FlagReader → LettersRead
letters_of l = record { flags = flags_of l.flags; on = l.on; some = l.some }

-- flags, and the text after them
abbrev pub flags_read : Found_flags × Bor Text → Flags × Text
flags_read r = (flags_of r.0, r.1.now)

-- what a reference names
abbrev pub target_of : Found_target → Target
target_of (Numbered n) = numbered n
target_of (Missing n) = missing n
target_of (Called name) = called (chars (string_bytes name))
target_of (CalledOrNumbered name) = called_or_numbered (chars (string_bytes name))

abbrev pub targets_of : List Found_target → List Target
targets_of = map target_of

-- a reference, and the text after it
abbrev pub reading_of : Found_target × Bor Text → Target × Text
reading_of r = (target_of r.0, r.1.now)

abbrev pub groups_of : Found_groups → Groups
groups_of g = record { by_name = g.by_name; opened = g.count - 1; names = names_of g.names.now }

-- the groups of a whole pattern; they are referred to by name alone where only those with a name capture and there is one
abbrev pub draft_groups : Bool → Draft → Groups
draft_groups only_named r = record { by_name = only_named && has_name (named_groups r.names.items); opened = r.groups - 1; names = named_groups r.names.items }

-- each of these names a group
abbrev pub AreResolved : Groups → List Found_target → Type 0
AreResolved g targets = All (λ w. target_fault g (target_of w) ≡ None) targets

-- one of these has this fault
abbrev pub HaveFault : Groups → List Found_target → ReferenceFault → Type 0
HaveFault g targets = λ f. Any (λ w. target_fault g (target_of w) ≡ Some f) targets

-- the group that each reference of a draft names, by how many were written before it
abbrev pub draft_numbers : Bool → Draft → ℕ → ℕ
draft_numbers only_named r = number_in (map (group_for (draft_groups only_named r)) (targets_of r.wanted.items))

-- what is in force where the parser stands
abbrev pub scope_of : Parser → Scope
scope_of p = record { meaning = p.meaning; keeps_characters = p.keeps_characters; unnamed_capture = p.unnamed_capture; flags = flags_of p.flags; opened = p.opened; names = named_groups p.names.items; wanted = targets_of p.wanted.items; in_look_around = p.in_look_around }

-- what is left to read
abbrev pub text_left : Parser → Text
text_left p = p.cursor.rest.now

abbrev pub place : Parser → Place
place p = start (scope_of p) (text_left p)

-- how many bytes of the whole pattern stand before the rest
abbrev pub bytes_before : Text → Text → ℕ
bytes_before whole rest = min (sum_by len_utf8 (take (length whole - length rest) whole)) (2 ^ 64 - 1)

abbrev pub opening_found : Found → Opening
opening_found Setting = setting
opening_found Plain = plain
opening_found (Capture n) = capture n
opening_found (Marked how) = marked how
opening_found (Reference folded index) = reference folded index
opening_found (Chooses c) = chooses (pattern_of c.value)
opening_found Condition = condition

abbrev pub bounds_of : Turns → RepeatBounds
bounds_of t = (t.low, t.high)

-- the error of what a class was refused for, at this byte of the pattern
abbrev pub error_at : ℕ → ClassRefusal → Error
error_at at OutOfMemory = Memory
error_at at (Invalid kind) = ParseError at kind

abbrev pub dialect_options : ParseOptions → DialectOptions
dialect_options s = record { meaning = s.meaning; keeps_characters = s.keeps_characters; only_named = s.only_named; not_empty = s.not_empty; flags = flags_of s.flags }

-- memory ran out, or the claim holds
abbrev pub MemoryOr : Error → Type 0 → Type 0
MemoryOr Memory claim = Unit {0}
MemoryOr (ParseError at kind) claim = claim
MemoryOr (CompileError why) claim = ⊥
MemoryOr (RuntimeError why) claim = ⊥

-- The pattern was spelled, in one of these ways: with so many groups, these names, and references to these.
abbrev pub SpellsDraft : (Pattern → Scope → Type 0) → Draft → Type 0
SpellsDraft S r = (end : Scope) × S (pattern_of r.tree) end × (end.opened + 1 ≡ r.groups) × (named_groups r.names.items ≡ end.names) × (targets_of r.wanted.items ≡ end.wanted)

-- the fault of a reference that a refusal tells
abbrev pub told_fault : Compiling → Option ReferenceFault
told_fault (InvalidBackref n) = Some (no_number n)
told_fault (InvalidGroupNameBackref name) = Some (no_name (chars (string_bytes name)))
told_fault NamedBackrefOnly = Some by_name_alone
told_fault _ = None

-- memory ran out, or the claim holds of what is told
abbrev pub RefusesReference : Error → (ReferenceFault → Type 0) → Type 0
RefusesReference Memory claim = Unit {0}
RefusesReference (ParseError at kind) claim = ⊥
RefusesReference (CompileError why) claim = (f : ReferenceFault) × (told_fault why ≡ Some f) × claim f
RefusesReference (RuntimeError why) claim = ⊥

-- The sizes of this pattern refuse it for this.
abbrev pub HasBadSize : Compiling → DialectOptions → Pattern → Type 0
HasBadSize LookBehindNotConst o p = are_sized o.meaning p ≡ false
HasBadSize PatternCanNeverMatch o p = (o.not_empty ≡ true) × (size o.meaning p ≡ Some 0)
HasBadSize _ o p = ⊥

-- a refusal for the sizes of this pattern
abbrev pub RefusesSizes : Error → DialectOptions → Pattern → Type 0
RefusesSizes Memory o p = ⊥
RefusesSizes (ParseError at kind) o p = ⊥
RefusesSizes (CompileError why) o p = HasBadSize why o p
RefusesSizes (RuntimeError why) o p = ⊥

-- The group was found, or the error tells why there is none.
abbrev pub Resolves : Result ℕ ReferenceFault → Result ℕ Error → Type 0
Resolves r (Ok n) = r ≡ Ok n
Resolves r (Err e) = RefusesReference e (λ f. r ≡ Err f)

-- nothing is spelled, in none of these ways
abbrev pub HasNoSpelling : (Pattern → Scope → Type 0) → Type 0
HasNoSpelling S = (p : Pattern) (end : Scope) → S p end → ⊥

-- The result is the one reading from p, and q is where it ends; or there is none, unless memory ran out.
abbrev pub Gives : {X T : Type 0} → (X → T) → (Place → T → Place → Type 0) → Result X Error → Place → Place → Type 0
Gives view R (Ok x) p q = IsTheReading R p (view x) q
Gives view R (Err e) p q = MemoryOr e (HasNoReading R p)

-- the same where the grammar's own reading is a function
abbrev pub GivesValue : {X T : Type 0} → (X → T) → Option (T × Place) → Result X Error → Place → Type 0
GivesValue view o (Ok x) q = o ≡ Some (view x, q)
GivesValue view o (Err e) q = MemoryOr e (o ≡ None)

-- The result is what the lexeme that stands at p means, and q is the place after it.
abbrev pub GivesMeant : Option (Lexeme × Text) → Result Tree Error → Place → Place → Type 0
GivesMeant o (Ok t) p q = (x : Lexeme) × (o ≡ Some (x, q.text)) × IsMeant x (pattern_of t) × (q ≡ start p.scope q.text)
GivesMeant o (Err e) p q = MemoryOr e (o ≡ None)

-- The next so many characters are this lexeme, and the result is what it means; or there is none.
abbrev pub GivesLexeme : ℕ → Option Lexeme → Result Tree Error → Place → Place → Type 0
GivesLexeme count o r p q = GivesMeant (followed_by (drop count p.text) o) r p q

abbrev pub Alternation : ℕ → Place → Pattern → Place → Type 0
Alternation k p x q = (bs : List Pattern) × (x ≡ in_branches bs) × BranchesReading k p bs q

abbrev pub Sequence : ℕ → Place → Pattern → Place → Type 0
Sequence k p x q = (ps : List Pattern) × (x ≡ in_sequence ps) × PartsReading k p ps q

-- The parenthesis at p opens what was found, at q; or it opens nothing where so many may still be open, unless memory ran out.
abbrev pub GivesOpening : ℕ → Result Found Error → Place → Place → Type 0
GivesOpening k (Ok how) p q = (opening_here p ≡ Some (opening_found how, q)) × (parentheses (opening_found how) ≤ k)
GivesOpening k (Err e) p q = MemoryOr e (HasNoReading (Opens k) p)

-- the patterns of trees
abbrev pub patterns_of : Vec Tree Global → List Pattern
patterns_of v = map pattern_of v.items

-- the part that an item gives
abbrev pub part_of : Option Tree → Option Pattern
part_of t = option_map pattern_of t
