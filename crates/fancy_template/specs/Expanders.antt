-- What an expander and the steps that it has in hand stand for.
use Rattle.std.specs.Prelude.{◌≡◌, ℕ, Bool, true, false, List, ◌∷◌, Option, Result, OnOk, OnErr, chars, codes, drop, encode_utf8_all}
use Rattle.std.specs.Borrow.{Bor}
use Rattle.std.specs.Char.{is_ascii_digit}
use Rattle.fancy_tree.specs.Text.{Text}
use Rattle.fancy_template.specs.Templates.{TemplateSyntax, Step, literal, name, number, error, steps, Form, is_name_character}
use Rattle.fancy_template.specs.Appended.{Writes, WritesPart}
use Rattle.fancy_template.specs.Expansions.{Captured, expansion, expanded_texts}
use Rattle.fancy_template.specs.Marks.{escaped_template}
use Rattle.fancy_template.specs.declared.scan.CharKind.{CharKind}
use Rattle.fancy_template.specs.declared.scan.CharKind.TheVariants.{OfName, Digit}
use Rattle.fancy_template.specs.declared.expander.Delimiters.{Delimiters}
use Rattle.fancy_template.specs.declared.expander.Delimiters.TheVariants.{Braces, Angles}
use Rattle.fancy_template.specs.declared.expander.Expander.{Expander}
use Rattle.fancy_template.specs.declared.steps.Step as read
use Rattle.fancy_template.specs.declared.steps.Step.TheVariants.{Literal, Name, Number, Error}
use Rattle.fancy_template.specs.declared.steps.Steps.{Steps}

-- what stands before the name of a group
abbrev pub opening_of : Delimiters → Text
opening_of Braces = codes "{"
opening_of Angles = codes "g<"

-- and after it
abbrev pub closing_of : Delimiters → Text
closing_of Braces = codes "}"
closing_of Angles = codes ">"

-- how its templates are written
abbrev pub syntax_of : Expander → TemplateSyntax
syntax_of e = record { mark = e.mark; opening = opening_of e.delimiters; closing = closing_of e.delimiters; undelimited = e.undelimited }

abbrev pub mark_of : Expander → ℕ
mark_of e = e.mark

-- what a template of these bytes expands to for captures, of which `captured` says what templates see
abbrev pub expand : {C : Type 0} → Expander → (C → Captured) → C → List ℕ → List ℕ
expand e captured c template = expansion (syntax_of e) (captured c) (chars template)

-- where a writer took all that it was given, that is the expansion of a template
abbrev pub WritesAll : {W C A F : Type 0} → (W → Option (List ℕ)) → W → W → Result A F → Expander → (C → Captured) → C → List ℕ → Type 0
WritesAll contents before after result e captured c template = OnOk result (Writes contents before (expand e captured c template) after)

-- where it refused, it has taken a beginning of the expansion, and not all of it
abbrev pub WritesSome : {W C A F : Type 0} → (W → Option (List ℕ)) → W → W → Result A F → Expander → (C → Captured) → C → List ℕ → Type 0
WritesSome contents before after result e captured c template = OnErr result (WritesPart contents before (expand e captured c template) after)

-- the texts that a template of these bytes expands to, one for each step
abbrev pub expand_texts : {C : Type 0} → Expander → (C → Captured) → C → List ℕ → List (List ℕ)
expand_texts e captured c template = expanded_texts (syntax_of e) (captured c) (chars template)

-- whatever was captured, a template of these bytes expands to this text
abbrev pub ExpandsTo : Expander → List ℕ → List ℕ → Type 0
ExpandsTo e template text = (k : Captured) → expansion (syntax_of e) k (chars template) ≡ text

-- the bytes of the template that stands for a text of these bytes
abbrev pub escape_by : Expander → List ℕ → List ℕ
escape_by e text = encode_utf8_all (escaped_template (mark_of e) (chars text))

-- the step, with a name as a text of characters
abbrev pub step_of : read.Step → Step
step_of (Literal c) = literal c
step_of (Name w) = name (chars w.now)
step_of (Number n) = number n
step_of Error = error

abbrev pub with_mark_if : Bool → ℕ → List Step → List Step
with_mark_if false mark rest = rest
with_mark_if true mark rest = literal mark ∷ rest

-- the steps that are still to come
abbrev pub steps_left : Steps → List Step
steps_left s = with_mark_if s.owes_mark s.expander.mark (steps (syntax_of s.expander) (chars s.rest.now))

-- a step that was read from the front of a text, and what follows it there
abbrev pub step_read : (read.Step × Bor (List ℕ)) → Step × Text
step_read x = (step_of x.0, chars x.1.now)

abbrev pub form_in : Text → Form → Step × Text
form_in t f = (f.step, drop f.width t)

-- the characters that make up names, and numbers
abbrev pub test_of : CharKind → ℕ → Bool
test_of OfName = is_name_character
test_of Digit = is_ascii_digit
