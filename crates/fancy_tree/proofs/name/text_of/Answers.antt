use Rattle.std.proofs.Common.{rules, string_bytes, sym}
use Rattle.std.proofs.lemmas.Str.{chars_from_encodes, IsUtf8-string_bytes}
use Rattle.fancy_tree.proofs.name.text_of.Goals as goal

pub returns : goal.returns
returns c = sym (chars_from_encodes c.args.characters.now (string_bytes c.in_ok-text.text) (IsUtf8-string_bytes c.in_ok-text.text) (search rules))
