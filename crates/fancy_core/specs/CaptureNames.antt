-- The names of a regex's groups. A name may stand on several groups, and then the last in the pattern is meant.
use Rattle.std.specs.Prelude.{ℕ, ◌<◌, ◌==◌, Bool, not, length, List, drop, map, reverse, find, Option, IfSome, option_map, option_and_then, chars}
use Rattle.std.specs.List.{range_with_len}
use Rattle.std.specs.Borrow.{Bor}
use Rattle.fancy_tree.specs.Text.{Text}
use Rattle.fancy_tree.specs.Names.{last_named}
use Rattle.fancy_search.specs.Programs.{program_names}
use Rattle.fancy_template.specs.Checks.{TemplateGroups}
use Rattle.fancy_input.specs.declared.span.Span.{Span}
use Rattle.fancy_core.specs.declared.regex.Regex.{Regex}
use Rattle.fancy_core.specs.declared.names.CaptureNames.{CaptureNames}
use Rattle.fancy_core.specs.Regexes.{group_count_in, program_in}
use Rattle.fancy_search.specs.Groups.{span_at}

-- the names, each with the number of its group, in the order of the groups' openings
abbrev pub names_in : Regex → List (Text × ℕ)
names_in r = program_names (program_in r)

-- the number of the last group of the pattern that has the name
abbrev pub group_named : Regex → Text → Option ℕ
group_named r name = last_named name (names_in r)

-- The name stands on a group of the pattern, which is never group 0, the whole match; or on none.
abbrev pub StandsOnGroup : Regex → Text → Type 0
StandsOnGroup r name = IfSome (group_named r name) (λ number. (0 < number) × (number < group_count_in r))

-- whether any group has a name
abbrev pub has_names : Regex → Bool
has_names r = not (length (names_in r) == 0)

-- what a template may name
abbrev pub template_groups : Regex → TemplateGroups
template_groups r = record { count = group_count_in r; has_names = has_names r; group_named = group_named r }

-- the name that these give to the group with this number
abbrev pub name_among : List (Text × ℕ) → ℕ → Option Text
name_among groups number = option_map (λ g. g.0) (find (λ g. g.1 == number) (reverse groups))

-- the name of the group with this number, if it has one
abbrev pub name_of_group : Regex → ℕ → Option Text
name_of_group r number = name_among (names_in r) number

-- the name of each group in turn, from group 0 on
abbrev pub names_of_groups : Regex → List (Option Text)
names_of_groups r = map (name_of_group r) (range_with_len 0 (group_count_in r))

-- the span of the last group that has the name, if that took part
abbrev pub span_named : Regex → List (Option Span) → Text → Option Span
span_named r spans name = option_and_then (span_at spans) (group_named r name)

-- the characters of a name
abbrev pub read_name : Option (Bor (List ℕ)) → Option Text
read_name = option_map (λ n. chars n.now)

-- the names that are still to come
abbrev pub names_left : CaptureNames → List (Option Text)
names_left n = drop n.next (map read_name n.names.items)
