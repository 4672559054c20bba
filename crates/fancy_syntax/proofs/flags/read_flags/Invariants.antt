use Rattle.std.proofs.Common.{◌≡◌, drop}
use Rattle.fancy_syntax.specs.Grammar.{flags_in, first_letter}
use Rattle.fancy_syntax.specs.Views.{letters_of}
use Rattle.fancy_syntax.specs.Flags.{flags_of}
use Rattle.fancy_syntax.proofs.flags.read_flags.Given as goal

abbrev pub invariant-loop-i : goal.invariant-loop-i
invariant-loop-i l = flags_in l.meaning l.text (first_letter (flags_of l.fn.flags)) ≡ flags_in l.meaning (drop l.i l.text) (letters_of l.letters)
