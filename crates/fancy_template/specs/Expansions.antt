-- What templates see of captures, and what they expand to. Texts of groups are bytes.
use Rattle.std.specs.Prelude.{ℕ, List, [], Option, None, Some, encode_utf8, flat_map, map, if◌then◌else◌}
use Rattle.std.specs.Char.{is_ascii_digit}
use Rattle.std.specs.List.{list_all}
use Rattle.std.specs.Option.{option_or, option_and_then}
use Rattle.fancy_tree.specs.Text.{Text}
use Rattle.fancy_template.specs.Templates.{Step, literal, name, number, error, fitting, TemplateSyntax, steps}

-- What the groups with a name, and with a number, matched: `None` where there is no such group or it took no part.
pub record Captured : Type 0 where
  pub text_of_name : Text → Option (List ℕ)
  pub text_of_number : ℕ → Option (List ℕ)

abbrev pub or_nothing : Option (List ℕ) → List ℕ
or_nothing None = []
or_nothing (Some bs) = bs

-- a name read as a decimal number
abbrev pub as_number : Text → Option ℕ
as_number w = if list_all is_ascii_digit w then fitting w else None

-- the text of the group with a name where that took part, else of the group whose decimal number it is
abbrev pub text_of_group : Captured → Text → Option (List ℕ)
text_of_group k w = option_or (k.text_of_name w) (option_and_then k.text_of_number (as_number w))

-- what a step gives
abbrev pub expanded : Captured → Step → List ℕ
expanded k (literal c) = encode_utf8 c
expanded k (name w) = or_nothing (text_of_group k w)
expanded k (number n) = or_nothing (k.text_of_number n)
expanded k error = []

-- what a template gives
unfoldable pub expansion : TemplateSyntax → Captured → Text → List ℕ
expansion s k t = flat_map (expanded k) (steps s t)

-- the texts that a template gives, one for each step
abbrev pub expanded_texts : TemplateSyntax → Captured → Text → List (List ℕ)
expanded_texts s k t = map (expanded k) (steps s t)
