use Rattle.std.proofs.Common.{string_bytes, ◌≡◌, encode_utf8_all, flat_map}
use Rattle.fancy_regex.specs.Escapes.{escaped_character}
use Rattle.fancy_regex.proofs.escapes.escape.Given as goal

abbrev pub invariant-loop-c : goal.invariant-loop-c
invariant-loop-c l = string_bytes l.escaped ≡ encode_utf8_all (flat_map escaped_character l.yielded)
