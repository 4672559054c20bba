use Rattle.std.proofs.Common.{rules, ◌≡◌, ◌∙◌, string_bytes}
use Rattle.fancy_regex_c.specs.Replacements.{text_with, AreTexts, IsWholePlace, is_replaced}
use Rattle.fancy_regex_c.proofs.texts.replace_in.Goals as goal

pub returns-in-Ok-Owned : goal.returns-in-Ok-Owned
returns-in-Ok-Owned c =
    let text : c.in-Ok.text.now ≡ c.args.text.now = c.in-Ok.ensures.cases.0 in
    let given : c.in-Ok-from_utf8.replacement.now ≡ c.args.how.replacement.now = c.in-Ok-from_utf8.ensures.cases.0 in
    let are : AreTexts c.args.text.now c.args.how.replacement.now = record { is_text = c.in-Ok.ensures.cases.1; of_text = c.in-Ok-from_utf8.ensures.cases.1 } in
    let place : IsWholePlace c.args.regex.now c.args.text.now = search rules in
    let made : string_bytes c.in-Ok-Owned.answer ≡ text_with c.args.regex.now c.in-Ok.text.now c.args.how = rw c.in-Ok-Owned.field-0-is at c.in-Ok-Owned.ensures.text in
    let some = rw (c.in-Ok-Owned.field-0-is, text) at c.in-Ok-Owned.ensures.borrowed in
    let bytes : c.as_bytes.result.now ≡ text_with c.args.regex.now c.args.text.now c.args.how = c.as_bytes.ensures.value ∙ (c.as_str.ensures.value ∙ rw text at made) in
    is_replaced are place (rw text at c.in-Ok-Owned.ensures.allowed) (λ none. some.1 none) (rw bytes at c.put.ensures)
