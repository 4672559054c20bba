-- Which steps of a template are allowed where these groups are, and why others are refused.
use Rattle.std.specs.Prelude.{◌≡◌, ◌==◌, ℕ, Bool, nat_lt, List, [], ◌∷◌, Option, None, Some, if◌then◌else◌, chars, string_bytes, ◌⊎◌}
use Rattle.std.specs.Option.{option_or}
use Rattle.fancy_tree.specs.Text.{Text}
use Rattle.fancy_tree.specs.declared.error.Error.{Error}
use Rattle.fancy_tree.specs.declared.error.Error.TheVariants.{Memory, ParseError, CompileError}
use Rattle.fancy_tree.specs.declared.error.ParseErrorKind.TheVariants.{GeneralParseError}
use Rattle.fancy_tree.specs.declared.error.CompileError.TheVariants.{InvalidBackref, InvalidGroupNameBackref, NamedBackrefOnly}
use Rattle.fancy_template.specs.Templates.{Step, literal, name, number, error, steps}
use Rattle.fancy_template.specs.declared.expander.Expander.{Expander}
use Rattle.fancy_template.specs.Expanders.{syntax_of}
use Rattle.fancy_template.specs.Expansions.{as_number}

-- The groups that a template may name: how many there are, with group 0, the whole match; whether any has a name; and the number of the group that a name stands for.
pub record TemplateGroups : Type 0 where
  pub count : ℕ
  pub has_names : Bool
  pub group_named : Text → Option ℕ

-- A number where groups have names, the number of no group, the name of no group that is no number either, and no form.
pub data TemplateFault : Type 0 where
  by_name_alone : TemplateFault
  no_number : ℕ → TemplateFault
  no_name : Text → TemplateFault
  no_form : TemplateFault

-- The match itself may always be named by its number; another group where no group has a name and there are that many.
abbrev pub fault_of_number : TemplateGroups → ℕ → Option TemplateFault
fault_of_number groups n = if n == 0 then None else if groups.has_names then Some by_name_alone else if nat_lt n groups.count then None else Some (no_number n)

abbrev pub fault_of_numeral : TemplateGroups → Text → Option ℕ → Option TemplateFault
fault_of_numeral groups w None = Some (no_name w)
fault_of_numeral groups w (Some n) = fault_of_number groups n

-- a name that no group has is read as a number
abbrev pub fault_unless_named : TemplateGroups → Text → Option ℕ → Option TemplateFault
fault_unless_named groups w None = fault_of_numeral groups w (as_number w)
fault_unless_named groups w (Some n) = None

abbrev pub fault_of_name : TemplateGroups → Text → Option TemplateFault
fault_of_name groups w = fault_unless_named groups w (groups.group_named w)

-- what is wrong with a step
abbrev pub step_fault : TemplateGroups → Step → Option TemplateFault
step_fault groups (literal c) = None
step_fault groups (name w) = fault_of_name groups w
step_fault groups (number n) = fault_of_number groups n
step_fault groups error = Some no_form

-- the fault of the first step that has one
abbrev pub first_fault : TemplateGroups → List Step → Option TemplateFault
first_fault groups [] = None
first_fault groups (x ∷ xs) = option_or (step_fault groups x) (first_fault groups xs)

-- the first fault of a template of these bytes
abbrev pub template_fault : Expander → TemplateGroups → List ℕ → Option TemplateFault
template_fault e groups template = first_fault groups (steps (syntax_of e) (chars template))

-- The error tells the fault. A name is copied into it, for which memory may run out.
abbrev pub Tells : Error → TemplateFault → Type 0
Tells e by_name_alone = e ≡ CompileError NamedBackrefOnly
Tells e (no_number n) = e ≡ CompileError (InvalidBackref n)
Tells e (no_name w) = (e ≡ Memory) ⊎ ((copy : _) × (e ≡ CompileError (InvalidGroupNameBackref copy)) × (chars (string_bytes copy) ≡ w))
Tells e no_form = e ≡ ParseError 0 GeneralParseError

-- there is a fault, and the error tells it
abbrev pub TellsThe : Error → Option TemplateFault → Type 0
TellsThe e fault = (f : TemplateFault) × (fault ≡ Some f) × Tells e f
