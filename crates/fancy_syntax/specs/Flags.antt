-- The flags that a program states, in the words of the dialect.
use Rattle.fancy_syntax.specs.declared.flags.Flags.{Flags as Found_flags}
use Rattle.fancy_syntax.specs.Dialect.{Flags}

abbrev pub flags_of : Found_flags → Flags
flags_of f = record { ignore_case = f.ignore_case; multi_line = f.multi_line; dot_all = f.dot_all; ignore_blanks = f.ignore_blanks; crlf = f.crlf }
