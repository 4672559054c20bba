-- When a pattern may be refused, and by which error.
use Rattle.std.specs.Prelude.{◌≡◌, ◌<◌, true, false, Any, Some, chars, string_bytes}
use Rattle.fancy_tree.specs.Limits.{most_nodes}
use Rattle.fancy_tree.specs.declared.error.CompileError.{CompileError as Compiling}
use Rattle.fancy_tree.specs.declared.error.CompileError.TheVariants.{InvalidBackref, InvalidGroupNameBackref, NamedBackrefOnly, LookBehindNotConst, PatternCanNeverMatch, PatternTooComplex}
use Rattle.fancy_tree.specs.declared.error.Error.{Error}
use Rattle.fancy_tree.specs.declared.error.Error.TheVariants.{Memory, ParseError, CompileError, RuntimeError}
use Rattle.fancy_tree.specs.Pattern.{Pattern}
use Rattle.fancy_tree.specs.Sizes.{size, nodes, are_sized}
use Rattle.fancy_tree.specs.Text.{Text}
use Rattle.fancy_syntax.specs.References.{ReferenceFault, by_name_alone, no_number, no_name}
use Rattle.fancy_tree.specs.Refers.{refers_to}
use Rattle.fancy_syntax.specs.Dialect.{Scope, DialectOptions, SpellsUnder, fault_in_scope, numbers}

-- The text spells a pattern, one of whose references has this fault.
abbrev pub HasFault : ReferenceFault → DialectOptions → Text → Type 0
HasFault f o text = (p : Pattern) × (end : Scope) × SpellsUnder o text p end × Any (λ w. fault_in_scope o end w ≡ Some f) end.wanted

-- The text spells a pattern, but this is why it is not accepted.
abbrev pub IsNotAccepted : Compiling → DialectOptions → Text → Type 0
IsNotAccepted (InvalidBackref n) o text = HasFault (no_number n) o text
IsNotAccepted (InvalidGroupNameBackref name) o text = HasFault (no_name (chars (string_bytes name))) o text
IsNotAccepted NamedBackrefOnly o text = HasFault by_name_alone o text
IsNotAccepted LookBehindNotConst o text = (p : Pattern) × (end : Scope) × SpellsUnder o text p end × (are_sized o.meaning (refers_to (numbers o end) p) ≡ false)
IsNotAccepted PatternCanNeverMatch o text =
    (p : Pattern) × (end : Scope) × SpellsUnder o text p end × (o.not_empty ≡ true) × (size o.meaning (refers_to (numbers o end) p) ≡ Some 0)
IsNotAccepted PatternTooComplex o text = (p : Pattern) × (end : Scope) × SpellsUnder o text p end × (most_nodes < nodes p)

-- The error says the truth of the text, except that memory may run out at any time: a parse error of any kind says that the text spells nothing.
abbrev pub IsRefused : Error → DialectOptions → Text → Type 0
IsRefused Memory o text = Unit {0}
IsRefused (ParseError at kind) o text = (p : Pattern) (end : Scope) → SpellsUnder o text p end → ⊥
IsRefused (CompileError why) o text = IsNotAccepted why o text
IsRefused (RuntimeError why) o text = ⊥
