-- What stands for a pattern set: its members, what makes them, and what they are asked.
use Rattle.std.specs.Prelude.{◌≡◌, ℕ, Bool, All, List, Some, Ok, Err, take, slice_get, map}
use Rattle.std.specs.List.{AllZip}
use Rattle.std.specs.Borrow.{Bor}
use Rattle.fancy_tree.specs.declared.error.Error.{Error}
use Rattle.fancy_input.specs.declared.regex_input.RegexInput.{RegexInput}
use Rattle.fancy_input.specs.Inputs.{haystack_in, request_in}
use Rattle.fancy_search.specs.declared.options.Options.{Options}
use Rattle.fancy_core.specs.declared.regex.Regex.{Regex}
use Rattle.fancy_core.specs.Built.{IsReading}
use Rattle.fancy_core.specs.Regexes.{options_in}
use Rattle.fancy_core.specs.Searches.{CanSearchInput}
use Rattle.fancy_regex.specs.declared.set.RegexSet.{RegexSet}
use Rattle.fancy_regex.specs.SetMembers.{SetQuery}

abbrev pub members_of : RegexSet → List Regex
members_of s = s.members.items

-- the bytes of texts that are lent
abbrev pub bytes_of_each : List (Bor (List ℕ)) → List (List ℕ)
bytes_of_each texts = map (λ (t : Bor (List ℕ)). t.now) texts

-- what the search of an input asks of a set
abbrev pub asked_of_set : {S : Type 0} {g : _} → RegexSet → (S → List ℕ) → RegexInput S g → SetQuery
asked_of_set s bytes input = record { members = members_of s; haystack = bytes (haystack_in input); request = request_in input }

-- each member can search the input
abbrev pub CanSearchAll : {S : Type 0} {g : _} → (S → Bool) → (S → List ℕ) → RegexSet → RegexInput S g → Type 0
CanSearchAll text bytes s input = All (λ r. CanSearchInput text bytes (options_in r) input) (members_of s)

-- the members are the readings of these texts under the options, in order, as many as there are texts
abbrev pub AreReadings : Options → List (List ℕ) → List Regex → Type 0
AreReadings o texts members = AllZip (λ t r. IsReading o t (Ok r)) texts members

-- The first text that is refused is refused by this error: all before it are read.
pub record RefusesFirst (o : Options) (texts : List (List ℕ)) (e : Error) : Type 0 where
  pub index : ℕ
  pub text : List ℕ
  pub is : slice_get texts index ≡ Some text
  pub members : List Regex
  pub read : AreReadings o (take index texts) members
  pub refused : IsReading o text (Err e)

-- each member was built with these options
abbrev pub HaveOptions : Options → List Regex → Type 0
HaveOptions o members = All (λ r. options_in r ≡ o) members
