-- The name of each kind of refusal, as it is written in a program.
use Rattle.std.specs.Prelude.{codes}
use Rattle.fancy_tree.specs.Text.{Text}
use Rattle.fancy_tree.specs.declared.error.ParseErrorKind.{ParseErrorKind}
use Rattle.fancy_tree.specs.declared.error.ParseErrorKind.TheVariants as parse
use Rattle.fancy_tree.specs.declared.error.CompileError.{CompileError}
use Rattle.fancy_tree.specs.declared.error.CompileError.TheVariants as compile
use Rattle.fancy_tree.specs.declared.error.RuntimeError.{RuntimeError}
use Rattle.fancy_tree.specs.declared.error.RuntimeError.TheVariants as runtime
use Rattle.fancy_tree.specs.declared.error.Error.{Error}
use Rattle.fancy_tree.specs.declared.error.Error.TheVariants as error

abbrev pub parse_error_name : ParseErrorKind → Text
parse_error_name parse.GeneralParseError = codes "GeneralParseError"
parse_error_name parse.UnclosedOpenParen = codes "UnclosedOpenParen"
parse_error_name parse.InvalidRepeat = codes "InvalidRepeat"
parse_error_name parse.TargetNotRepeatable = codes "TargetNotRepeatable"
parse_error_name parse.RecursionExceeded = codes "RecursionExceeded"
parse_error_name parse.TrailingBackslash = codes "TrailingBackslash"
parse_error_name parse.InvalidEscape = codes "InvalidEscape"
parse_error_name parse.InvalidHex = codes "InvalidHex"
parse_error_name parse.InvalidCodepointValue = codes "InvalidCodepointValue"
parse_error_name parse.InvalidClass = codes "InvalidClass"
parse_error_name parse.UnknownFlag = codes "UnknownFlag"
parse_error_name parse.InvalidGroupName = codes "InvalidGroupName"
parse_error_name parse.ChangingUnicodeModeUnsupported = codes "ChangingUnicodeModeUnsupported"
parse_error_name parse.NotInProfile = codes "NotInProfile"

abbrev pub compile_error_name : CompileError → Text
compile_error_name (compile.InvalidBackref number) = codes "InvalidBackref"
compile_error_name (compile.InvalidGroupNameBackref name) = codes "InvalidGroupNameBackref"
compile_error_name compile.NamedBackrefOnly = codes "NamedBackrefOnly"
compile_error_name compile.LookBehindNotConst = codes "LookBehindNotConst"
compile_error_name compile.PatternCanNeverMatch = codes "PatternCanNeverMatch"
compile_error_name compile.PatternTooComplex = codes "PatternTooComplex"

abbrev pub runtime_error_name : RuntimeError → Text
runtime_error_name runtime.BacktrackLimitExceeded = codes "BacktrackLimitExceeded"
runtime_error_name runtime.StackOverflow = codes "StackOverflow"
runtime_error_name runtime.StepLimitExceeded = codes "StepLimitExceeded"
runtime_error_name (runtime.Unmatched place) = codes "Unmatched"

-- the name of the kind inside
abbrev pub error_name : Error → Text
error_name error.Memory = codes "Memory"
error_name (error.ParseError place kind) = parse_error_name kind
error_name (error.CompileError kind) = compile_error_name kind
error_name (error.RuntimeError kind) = runtime_error_name kind
