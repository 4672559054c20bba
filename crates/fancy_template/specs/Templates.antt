-- Templates. A template is a text of characters, and is cut into steps.
use Prim.Native.Char.{code}
use Rattle.std.specs.Prelude.{ℕ, zero, suc, ◌+◌, ◌^◌, ◌==◌, ◌≡◌, ◌<◌, Bool, true, false, not, ◌&&◌, nat_eq, nat_lt, List, [], ◌∷◌, ◌++◌, length, drop, codes, Option, None, Some, if◌then◌else◌}
use Rattle.std.specs.List.{starts_with, list_all}
use Rattle.std.specs.Char.{is_ascii_digit}
use Rattle.std.specs.Option.{option_or}
use Rattle.std.specs.Str.Parse.{digits_value}
use Rattle.fancy_tree.specs.Text.{Text}
unfoldable pub use Rattle.fancy_tree.specs.Names.{is_name_character}

-- how an expander wants its templates written
pub record TemplateSyntax : Type 0 where
  -- the substitution character
  pub mark : ℕ
  -- what stands before a name, and after it
  pub opening : Text
  pub closing : Text
  -- whether a name may also stand with nothing around it
  pub undelimited : Bool

-- `$1`, `$name`, `${name}`
abbrev pub dollar_syntax : TemplateSyntax
dollar_syntax = record { mark = code "$"; opening = codes "{"; closing = codes "}"; undelimited = true }

-- `\1`, `\g<name>`
abbrev pub python_syntax : TemplateSyntax
python_syntax = record { mark = code "\\"; opening = codes "g<"; closing = codes ">"; undelimited = false }

-- A character, a group by its name or by its number, or the fault that no form stands after a mark.
pub data Step : Type 0 where
  literal : ℕ → Step
  name : Text → Step
  number : ℕ → Step
  error : Step

-- the longest row of characters at the start that pass a test, and what follows it
abbrev pub row : (ℕ → Bool) → Text → Text
row p [] = []
row p (c ∷ t) = if p c then c ∷ row p t else []

abbrev pub past_row : (ℕ → Bool) → Text → Text
past_row p t = drop (length (row p t)) t

abbrev pub is_empty_text : Text → Bool
is_empty_text t = length t == 0

-- where `after` follows, w is the longest row, and not empty
pub record IsRow (p : ℕ → Bool) (w after : Text) : Type 0 where
  pub some : is_empty_text w ≡ false
  pub all : list_all p w ≡ true
  pub ends : row p after ≡ []

abbrev pub begins_with : Text → Text → Bool
begins_with w t = starts_with nat_eq t w

-- the text begins with w, and this follows it
abbrev pub Follows : Text → Text → Text → Type 0
Follows w t rest = (begins_with w t ≡ true) × (rest ≡ drop (length w) t)

-- the number that decimal digits write, where it fits 64 bits
unfoldable pub fitting : Text → Option ℕ
fitting w = if not (is_empty_text w) && nat_lt (digits_value 10 w) (2 ^ 64) then Some (digits_value 10 w) else None

-- what may stand after a mark, and how many characters it has there
pub record Form : Type 0 where
  pub step : Step
  pub width : ℕ

-- the mark again
abbrev pub doubled : TemplateSyntax → Text → Option Form
doubled s t = if begins_with (s.mark ∷ []) t then Some (record { step = literal s.mark; width = 1 }) else None

abbrev pub delimited_form : TemplateSyntax → Text → Text → Option Form
delimited_form s w rest = if not (is_empty_text w) && begins_with s.closing rest then Some (record { step = name w; width = length s.opening + (length w + length s.closing) }) else None

-- a name between delimiters
unfoldable pub name_in_delimiters : TemplateSyntax → Text → Option Form
name_in_delimiters s t = if begins_with s.opening t then delimited_form s (row is_name_character (drop (length s.opening) t)) (past_row is_name_character (drop (length s.opening) t)) else None

-- a name alone
abbrev pub undelimited : TemplateSyntax → Text → Option Form
undelimited s t = if s.undelimited && not (is_empty_text (row is_name_character t)) then Some (record { step = name (row is_name_character t); width = length (row is_name_character t) }) else None

abbrev pub with_width : ℕ → Option ℕ → Option Form
with_width n None = None
with_width n (Some k) = Some (record { step = number k; width = n })

-- a number: all the digits that stand there
abbrev pub number_form : Text → Option Form
number_form t = with_width (length (row is_ascii_digit t)) (fitting (row is_ascii_digit t))

-- the first of the four forms that fits
unfoldable pub form : TemplateSyntax → Text → Option Form
form s t = option_or (doubled s t) (option_or (name_in_delimiters s t) (option_or (undelimited s t) (number_form t)))

-- after a mark: the form, and reading goes on after it; else an error, the mark as a literal, and reading goes on after the mark
abbrev pub after_mark : TemplateSyntax → Option Form → (ℕ → List Step) → List Step
after_mark s (Some f) on = f.step ∷ on f.width
after_mark s None on = error ∷ (literal s.mark ∷ on 0)

-- the steps of a template whose first n characters belong to the step before
abbrev pub cut : TemplateSyntax → ℕ → Text → List Step
cut s n [] = []
cut s (suc n) (c ∷ t) = cut s n t
cut s zero (c ∷ t) = if c == s.mark then after_mark s (form s t) (λ n. cut s n t) else (literal c ∷ cut s 0 t)

-- the steps of a template
unfoldable pub steps : TemplateSyntax → Text → List Step
steps s t = cut s 0 t

-- The template is cut into the steps: the same by cases, one for each way to begin.
pub data Cuts (s : TemplateSyntax) : Text → List Step → Type 0 where
  done : Cuts s [] []
  literal_character : (c : ℕ) (t : Text) (rest : List Step) → (c == s.mark) ≡ false → Cuts s t rest → Cuts s (c ∷ t) (literal c ∷ rest)
  formed : (f : Form) (t : Text) (rest : List Step) → form s t ≡ Some f → Cuts s (drop f.width t) rest → Cuts s (s.mark ∷ t) (f.step ∷ rest)
  faulty : (t : Text) (rest : List Step) → form s t ≡ None → Cuts s t rest → Cuts s (s.mark ∷ t) (error ∷ (literal s.mark ∷ rest))

-- a name between delimiters is read as that name
abbrev pub ReadsDelimited : TemplateSyntax → Text → Text → Type 0
ReadsDelimited s w t =
    IsRow is_name_character w (s.closing ++ t) → begins_with (s.mark ∷ []) (s.opening ++ (w ++ (s.closing ++ t))) ≡ false →
    steps s (s.mark ∷ (s.opening ++ (w ++ (s.closing ++ t)))) ≡ name w ∷ steps s t

-- a name with nothing around it is read as that name, where the expander allows it
abbrev pub ReadsUndelimited : TemplateSyntax → Text → Text → Type 0
ReadsUndelimited s w t =
    IsRow is_name_character w t → s.undelimited ≡ true → begins_with (s.mark ∷ []) (w ++ t) ≡ false → begins_with s.opening (w ++ t) ≡ false →
    steps s (s.mark ∷ (w ++ t)) ≡ name w ∷ steps s t

-- digits are read as the number that they write, where names need delimiters and 64 bits hold it
abbrev pub ReadsDigits : TemplateSyntax → Text → Text → Type 0
ReadsDigits s w t =
    IsRow is_ascii_digit w t → s.undelimited ≡ false → begins_with (s.mark ∷ []) (w ++ t) ≡ false → begins_with s.opening (w ++ t) ≡ false →
    digits_value 10 w < 2 ^ 64 → steps s (s.mark ∷ (w ++ t)) ≡ number (digits_value 10 w) ∷ steps s t
