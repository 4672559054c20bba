use Rattle.std.proofs.Common.{ap, ◌∙◌, inl, inr}
use Rattle.fancy_tree.specs.declared.tree.Meaning.TheVariants.{Bytes}
use Rattle.fancy_meaning.specs.Context.{is_word, word_before}
use Rattle.fancy_meaning.proofs.reading.is_wide_word_before.Goals as goal

pub returns-in-Bytes : goal.returns-in-Bytes
unfolding word_before
returns-in-Bytes c = rw c.in-Bytes.is (c.is_word_byte.ensures ∙ ap (is_word Bytes) c.byte_before.ensures)

pub returns-in-Unicode : goal.returns-in-Unicode
unfolding word_before
returns-in-Unicode c =
    let here = c.is_word_character.ensures ∙ ap (is_word c.args.meaning) c.character_before.ensures in
    elim c.in-Unicode.is [
      | inl unicode ↦ rw unicode (rw unicode at here)
      | inr ascii ↦ rw ascii (rw ascii at here)
    ]
