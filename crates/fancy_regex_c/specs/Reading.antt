-- What the options that cross mean.
use Rattle.std.specs.Prelude.{◌≡◌, ◌≤◌, ℕ, Option, None, Some, nat_eq, true, not, if◌then◌else◌}
use Rattle.fancy_regex.specs.declared.BytesMode.{BytesMode}
use Rattle.fancy_regex.specs.declared.BytesMode.TheVariants.{Unicode, Ascii, UnicodeBytes}
use Rattle.fancy_regex.specs.declared.Flags.{Flags}
use Rattle.fancy_regex.specs.declared.Options.{Options as Meant}
use Rattle.fancy_regex_c.specs.declared.plain.Options.{Options}
use Rattle.fancy_regex_c.specs.Asked.{has_flag}

-- what bytes mean, by its number
abbrev pub mode_of : ℕ → BytesMode
mode_of n = if nat_eq n 1 then Ascii else (if nat_eq n 2 then UnicodeBytes else Unicode)

-- a limit by its number: the greatest number is none
abbrev pub limit_of : ℕ → Option ℕ
limit_of n = if nat_eq n 18446744073709551615 then None else Some n

-- the flags at the pattern's start
abbrev pub flags_meant : ℕ → Flags
flags_meant switches = record {
  ignore_case = has_flag switches 1;
  multi_line = has_flag switches 2;
  dot_all = has_flag switches 4;
  ignore_blanks = has_flag switches 8;
  crlf = has_flag switches 16;
}

-- the options have the size of this library's struct, and no number that means nothing
pub record MeanSomething (o : Options) : Type 0 where
  pub size : o.size ≡ 48
  pub switches : o.switches ≤ 1023
  pub bytes_mode : o.bytes_mode ≤ 2

-- the options as the library has them
abbrev pub options_meant : Options → Meant
options_meant o = record {
  bytes_mode = mode_of o.bytes_mode;
  unicode_mode = not (has_flag o.switches 32);
  flags = flags_meant o.switches;
  ignore_numbered_groups_when_named_groups_exist = has_flag o.switches 64;
  allow_input_assertion_overrides = true;
  backtrack_limit = o.backtrack_limit;
  stack_limit = o.stack_limit;
  step_limit = limit_of o.step_limit;
  max_prog_size = limit_of o.program_limit;
  find_not_empty = has_flag o.switches 128;
  leftmost_longest = has_flag o.switches 256;
  seek = has_flag o.switches 512;
}
