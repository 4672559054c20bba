-- The texts of groups, as templates and replacers see them.
use Rattle.std.specs.Prelude.{◌≡◌, ℕ, List, Option, option_map, slice_range, chars}
use Rattle.std.specs.Option.{option_and_then}
use Rattle.std.specs.Borrow.{Bor}
use Rattle.fancy_input.specs.declared.matches.Match.{Match}
use Rattle.fancy_input.specs.Spans.{span_in, text_in}
use Rattle.fancy_template.specs.Expansions.{Captured, expansion}
use Rattle.fancy_template.specs.Templates.{dollar_syntax}
use Rattle.fancy_input.specs.declared.span.Span.{Span}
use Rattle.fancy_core.specs.declared.regex.Regex.{Regex}
use Rattle.fancy_core.specs.declared.captures.Captures.{Captures}
use Rattle.fancy_core.specs.Captures.{spans_in, searched_in}
use Rattle.fancy_core.specs.CaptureNames.{group_named}
use Rattle.fancy_search.specs.Groups.{span_at}

-- Matches of a form of haystack are those of text: they have the ends and the text that they say.
pub record AreOfText (span : Match → Span) (within : Match → List ℕ) : Type 0 where
  pub spans : (m : Match) → span m ≡ span_in m
  pub texts : (m : Match) → within m ≡ text_in m

-- What was found: by which regex, in which haystack, and the spans of the groups in order.
pub record Seen : Type 0 where
  pub regex : Regex
  pub haystack : List ℕ
  pub spans : List (Option Span)

-- the text of the group with this number, if there is one and it took part
abbrev pub text_numbered : Seen → ℕ → Option (List ℕ)
text_numbered s number = option_map (λ x. slice_range s.haystack x.start x.end) (span_at s.spans number)

-- what templates see of it: groups by their numbers, and by their names the last group with the name
abbrev pub group_texts : Seen → Captured
group_texts s = record {
  text_of_name = λ w. option_and_then (text_numbered s) (group_named s.regex w);
  text_of_number = text_numbered s;
}

-- what a template gives for a match
abbrev pub expansion_of : List ℕ → Seen → List ℕ
expansion_of template seen = expansion dollar_syntax (group_texts seen) (chars template)

-- what captures show; a haystack has these bytes
abbrev pub seen_in : {S : Type 0} {g : _} → (S → List ℕ) → Captures S g → Seen
seen_in bytes c = record { regex = c.regex.now; haystack = bytes (searched_in c); spans = spans_in c }

-- the bytes of a haystack that is a `&str`
abbrev pub bytes_of_str : Bor (List ℕ) → List ℕ
bytes_of_str s = s.now

-- what captures in a `&str` show
abbrev pub seen_in_str : {g : _} → Captures (Bor (List ℕ)) g → Seen
seen_in_str c = seen_in bytes_of_str c
