use Rattle.std.proofs.Common.{◌∙◌, ℕ, subst, List}
use Rattle.fancy_tree.specs.Pattern.{character}
use Rattle.fancy_required.specs.Told.{AddsSome, TellsText}
use Rattle.fancy_required.proofs.ToldLemmas.{character_in_bytes, character_in_utf8, told_any}
use Rattle.fancy_required.proofs.told.tell_character.Goals as goal

pub returns-in_ok-tell_bytes : goal.returns-in_ok-tell_bytes
returns-in_ok-tell_bytes c = character_in_bytes c.args.meaning c.args.c c.args.told.now.items c.tell_bytes.new.told.items c.in-Bytes.is c.in_ok-tell_bytes.ensures

pub returns-in_ok-push : goal.returns-in_ok-push
returns-in_ok-push c = told_any c.args.meaning (character c.args.c) c.args.told.now.items c.push.new.self.items c.in_ok-push.ensures.items

pub returns : goal.returns
returns c =
    character_in_utf8 c.args.meaning c.args.c c.args.told.now.items c.tell_bytes-2.new.told.items c.in_default.not-Bytes
    (subst (λ (bytes : List ℕ). AddsSome (TellsText bytes) c.args.told.now.items c.tell_bytes-2.new.told.items) (c.as_bytes.ensures.value ∙ c.encode_utf8.ensures.value) c.in_ok-tell_bytes-2.ensures)
