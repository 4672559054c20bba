-- What a request that crosses asks of a search.
use Rattle.std.specs.Prelude.{◌≡◌, ◌≤◌, ℕ, Bool, true, List, length, not, nat_eq, bit_and, All, IsUtf8}
use Rattle.fancy_regex.specs.declared.Onward.{Onward}
use Rattle.fancy_regex.specs.declared.Regex.{Regex}
use Rattle.fancy_regex.specs.declared.RegexSet.{RegexSet}
use Rattle.fancy_regex.specs.declared.Request.{Request as Asked}
use Rattle.fancy_regex.specs.Regexes.{options_in}
use Rattle.fancy_regex.specs.Searching.{CanSearch}
use Rattle.fancy_regex.specs.SetMembers.{SetQuery}
use Rattle.fancy_regex.specs.Sets.{members_of}
use Rattle.fancy_regex_c.specs.declared.plain.Request.{Request}

-- whether a flag is among these, added up
abbrev pub has_flag : ℕ → ℕ → Bool
has_flag flags flag = not (nat_eq (bit_and flags flag) 0)

-- the request as the library has it: matches begin anywhere from the start on, and end by the end
abbrev pub asked : Request → Asked
asked r = record {
  start = r.start;
  range_start = 0;
  range_end = r.end;
  anchored = has_flag r.flags 2;
  start_text = not (has_flag r.flags 4);
  end_text = not (has_flag r.flags 8);
  continues = not (has_flag r.flags 16);
}

-- how a list goes on that stands so: AFTER_MATCH is 1, and AFTER_EMPTY is 2
abbrev pub onward_from : ℕ → Onward
onward_from standing = record { continues = not (has_flag standing 2); skips_empty = has_flag standing 1 }

-- what it asks of the members of a set
abbrev pub asked_of_set : RegexSet → List ℕ → Request → SetQuery
asked_of_set set bytes r = record { members = members_of set; haystack = bytes; request = asked r }

-- whether the request says that the haystack is text
abbrev pub says_text : Request → Bool
says_text r = has_flag r.flags 1

-- the bytes are what the request says: text is UTF-8
abbrev pub IsAsSaid : List ℕ → Request → Type 0
IsAsSaid bytes r = says_text r ≡ true → IsUtf8 bytes

-- The regex may search the bytes as the request asks, as text or not: the end is within them. In text the start, where it is not past
-- the end, and the end are boundaries, and where the regex reads bytes the text is ASCII.
pub record IsPlaceIn (regex : Regex) (text : Bool) (bytes : List ℕ) (r : Request) : Type 0 where
  pub inside : r.end ≤ length bytes
  pub searched : CanSearch (options_in regex) text bytes (asked r)

abbrev pub IsPlace : Regex → List ℕ → Request → Type 0
IsPlace regex bytes r = IsPlaceIn regex (says_text r) bytes r

-- the same of all members of a set
pub record IsPlaceInSet (set : RegexSet) (text : Bool) (bytes : List ℕ) (r : Request) : Type 0 where
  pub inside : r.end ≤ length bytes
  pub searched : All (λ m. CanSearch (options_in m) text bytes (asked r)) (members_of set)

abbrev pub IsPlaceOfSet : RegexSet → List ℕ → Request → Type 0
IsPlaceOfSet set bytes r = IsPlaceInSet set (says_text r) bytes r
