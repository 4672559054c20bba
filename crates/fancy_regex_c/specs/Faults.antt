-- The numbers of a fault: those of the error of the library.
use Rattle.std.specs.Prelude.{◌≡◌, ◌==◌, ℕ, List, Err, IsUtf8, if◌then◌else◌}
use Rattle.fancy_regex.specs.declared.CompileError.{CompileError as Compiling}
use Rattle.fancy_regex.specs.declared.CompileError.TheVariants.{InvalidBackref, InvalidGroupNameBackref, NamedBackrefOnly, LookBehindNotConst, PatternCanNeverMatch, PatternTooComplex}
use Rattle.fancy_regex.specs.declared.Error.{Error}
use Rattle.fancy_regex.specs.declared.Error.TheVariants.{Memory, ParseError, CompileError, RuntimeError}
use Rattle.fancy_regex.specs.declared.ParseErrorKind.{ParseErrorKind}
use Rattle.fancy_regex.specs.declared.ParseErrorKind.TheVariants.{GeneralParseError, UnclosedOpenParen, InvalidRepeat, TargetNotRepeatable, RecursionExceeded, TrailingBackslash, InvalidEscape, InvalidHex, InvalidCodepointValue, InvalidClass, UnknownFlag, InvalidGroupName, ChangingUnicodeModeUnsupported, NotInProfile}
use Rattle.fancy_regex.specs.Built.{IsReading}
use Rattle.fancy_regex_c.specs.declared.plain.Fault.{Fault}
use Rattle.fancy_regex_c.specs.declared.plain.Options.{Options}
use Rattle.fancy_regex_c.specs.Reading.{options_meant, MeanSomething}

-- what is wrong with the text of a pattern
abbrev pub parse_number : ParseErrorKind → ℕ
parse_number GeneralParseError = 101
parse_number UnclosedOpenParen = 102
parse_number InvalidRepeat = 103
parse_number TargetNotRepeatable = 104
parse_number RecursionExceeded = 105
parse_number TrailingBackslash = 106
parse_number InvalidEscape = 107
parse_number InvalidHex = 108
parse_number InvalidCodepointValue = 109
parse_number InvalidClass = 110
parse_number UnknownFlag = 111
parse_number InvalidGroupName = 112
parse_number ChangingUnicodeModeUnsupported = 113
parse_number NotInProfile = 114

-- why a pattern that can be read is not accepted
abbrev pub compile_number : Compiling → ℕ
compile_number (InvalidBackref group) = 201
compile_number (InvalidGroupNameBackref name) = 202
compile_number NamedBackrefOnly = 203
compile_number LookBehindNotConst = 204
compile_number PatternCanNeverMatch = 205
compile_number PatternTooComplex = 206

-- the number that no group has
abbrev pub number_in_compiling : Compiling → ℕ
number_in_compiling (InvalidBackref group) = group
number_in_compiling (InvalidGroupNameBackref name) = 0
number_in_compiling NamedBackrefOnly = 0
number_in_compiling LookBehindNotConst = 0
number_in_compiling PatternCanNeverMatch = 0
number_in_compiling PatternTooComplex = 0

-- a fault with nothing but its kind
abbrev pub fault_of_kind : ℕ → Fault
fault_of_kind kind = record { kind = kind; pattern = 0; place = 0; number = 0 }

-- the fault that an error of a pattern tells: its kind, its place and its number, where it has one
abbrev pub fault_of : Error → Fault
fault_of Memory = fault_of_kind 1
fault_of (ParseError place kind) = record { kind = parse_number kind; pattern = 0; place = place; number = 0 }
fault_of (CompileError why) = record { kind = compile_number why; pattern = 0; place = 0; number = number_in_compiling why }
fault_of (RuntimeError why) = fault_of_kind 4

-- the answer of a call that has a fault of this kind: NO_MEMORY, NOT_TEXT, NO_OPTIONS or REFUSED
abbrev pub answer_of_kind : ℕ → ℕ
answer_of_kind kind = if kind == 1 then 4 else (if kind == 2 then 2 else (if kind == 3 then 7 else 6))

-- This is why there is no regex of the bytes: the options mean nothing; or the bytes are no UTF-8; or it is the fault of the error by
-- which the library refuses the pattern.
pub data IsFault (o : Options) (pattern : List ℕ) (fault : Fault) : Type 0 where
  wrong_options : fault ≡ fault_of_kind 3 → (MeanSomething o → ⊥) → IsFault o pattern fault
  no_text : fault ≡ fault_of_kind 2 → MeanSomething o → (IsUtf8 pattern → ⊥) → IsFault o pattern fault
  refused : MeanSomething o → IsUtf8 pattern → ((e : Error) × (fault ≡ fault_of e) × IsReading (options_meant o) pattern (Err e))
      → IsFault o pattern fault

-- the answer goes with the fault
abbrev pub IsToldBy : Options → List ℕ → Fault → ℕ → Type 0
IsToldBy o pattern fault answer = (answer ≡ answer_of_kind fault.kind) × IsFault o pattern fault
