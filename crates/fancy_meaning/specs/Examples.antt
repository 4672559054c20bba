-- Small searches whose answers are known from elsewhere.
use Prim.Native.Char.{code}
use Rattle.std.specs.Prelude.{◌≡◌, ℕ, Bool, true, false, ◌||◌, List, [], ◌∷◌, Option, Some, None, option_map, codes}
use Rattle.fancy_tree.specs.declared.tree.Meaning.TheVariants.{Unicode, Bytes}
use Rattle.fancy_tree.specs.declared.tree.RepeatKind.TheVariants.{Greedy, Lazy, Possessive}
use Rattle.fancy_tree.specs.declared.tree.Assertion.TheVariants.{TextStart, TextEnd, LineStart, LastLine, WordBoundary, NotWordBoundary, WordEndHalf}
use Rattle.fancy_tree.specs.Pattern.{Pattern, empty, character, member_of, in_any_case, backreference, assertion, group_test, keep_start, continue_here, group, repeat, look_ahead, look_behind, atomic, conditional, followed, or_else, last_branch}
use Rattle.fancy_input.specs.Requests.{whole}
use Rattle.fancy_input.specs.declared.span.Span.{Span}
use Rattle.fancy_input.specs.Spans.{from_to}
use Rattle.fancy_bytes.specs.Required.{required_bytes}
use Rattle.fancy_meaning.specs.Context.{Context, State}
use Rattle.fancy_meaning.specs.Trace.{trace}
use Rattle.fancy_meaning.specs.Search.{Query, search, span_of, choices, returns}
use Rattle.fancy_meaning.specs.Tried.{tried}

-- the pattern, which has so many groups with group 0, in the whole haystack, under the default options
abbrev pub example_query : Pattern → ℕ → List ℕ → Query
example_query p groups haystack = record {
  sought = record { pattern = p; meaning = Unicode; groups = groups; on_boundaries = true; overrides = false; not_empty = false; longest = false };
  haystack = haystack;
  request = whole haystack;
  continues = true;
}

-- the same within a range
abbrev pub within : ℕ → ℕ → Query → Query
within from to q = record q { request = record q.request { range_start = from; range_end = to } }

-- the same from a start on, where matches may begin and end anywhere
abbrev pub anywhere_from : ℕ → Query → Query
anywhere_from start q = record q { sought = record q.sought { on_boundaries = false }; request = record q.request { start = start } }

-- the same where the request suppresses both ends of the text, with and without the leave to do so
abbrev pub without_ends : Bool → Query → Query
without_ends overrides q = record q { sought = record q.sought { overrides = overrides }; request = record q.request { start_text = false; end_text = false } }

-- the same with `\G` off
abbrev pub with_here_off : Query → Query
with_here_off q = record q { continues = false }

-- the same where the request suppresses `\G`, with and without the leave to do so
abbrev pub without_here : Bool → Query → Query
without_here overrides q = record q { sought = record q.sought { overrides = overrides }; request = record q.request { continues = false } }

-- the same where the longest match is asked for, or where an empty one is refused
abbrev pub longest : Query → Query
longest q = record q { sought = record q.sought { longest = true } }

abbrev pub not_empty : Query → Query
not_empty q = record q { sought = record q.sought { not_empty = true } }

-- the same read by bytes
abbrev pub by_bytes : Query → Query
by_bytes q = record q { sought = record q.sought { meaning = Bytes; on_boundaries = false } }

abbrev pub found_span : Query → Option Span
found_span q = option_map span_of (search q)

abbrev pub found_captures : Query → Option (List (Option Span))
found_captures q = option_map (λ f. f.state.captures) (search q)

abbrev pub a : Pattern
a = character (code "a")

abbrev pub b : Pattern
b = character (code "b")

abbrev pub c : Pattern
c = character (code "c")

abbrev pub d : Pattern
d = character (code "d")

-- `a|ab`
abbrev pub a_or_ab : Pattern
a_or_ab = or_else a (last_branch (followed a b))

-- `(?:ab|a)(?:b|)c`
abbrev pub three_parts : Pattern
three_parts = followed (or_else (followed a b) (last_branch a)) (followed (or_else b (last_branch empty)) c)

-- `(a*)`
abbrev pub group_of_star : Pattern
group_of_star = group 1 (repeat 0 None Greedy a)

-- `é`, by its number, or `ab`
abbrev pub accented_or_ab : Pattern
accented_or_ab = or_else (character 233) (last_branch (followed a b))

-- `a|bc`, and `d` where that stands before it, or where it does not
abbrev pub a_or_bc : Pattern
a_or_bc = or_else a (last_branch (followed b c))

abbrev pub d_behind : Pattern
d_behind = followed (look_behind false a_or_bc) d

abbrev pub d_not_behind : Pattern
d_not_behind = followed (look_behind true a_or_bc) d

-- `é` in UTF-8, and `c`
abbrev pub accented_and_c : List ℕ
accented_and_c = 195 ∷ 169 ∷ 99 ∷ []

-- `a+(?=c)`
abbrev pub turns_before_c : Pattern
turns_before_c = followed (repeat 1 None Greedy a) (look_ahead false c)

-- `(?=(a+))a*b\1`
abbrev pub turns_seen_ahead : Pattern
turns_seen_ahead = followed (look_ahead false (group 1 (repeat 1 None Greedy a))) (followed (repeat 0 None Greedy a) (followed b (backreference false 1)))

-- `(a)(?!\1)`
abbrev pub not_twice : Pattern
not_twice = followed (group 1 a) (look_ahead true (backreference false 1))

-- `(?:a|b)(?=c)`
abbrev pub a_or_b_before_c : Pattern
a_or_b_before_c = followed (or_else a (last_branch b)) (look_ahead false c)

-- `(?(a)|)` and `(?(a)||)`: where both branches are empty the condition alone decides, and two empty branches after it are one that is not
abbrev pub a_alone : Pattern
a_alone = conditional a empty empty

abbrev pub a_or_nothing : Pattern
a_or_nothing = conditional a empty (or_else empty (last_branch empty))

-- `(a)?(?(1)b|c)`
abbrev pub b_after_a_or_c : Pattern
b_after_a_or_c = followed (repeat 0 (Some 1) Greedy (group 1 a)) (conditional (group_test 1) b c)

-- `\Gb`
abbrev pub b_here : Pattern
b_here = followed continue_here b

-- `(?<!\G)b`
abbrev pub b_not_here : Pattern
b_not_here = followed (look_behind true continue_here) b

-- a byte that continues a character, and no more
abbrev pub stray_byte : List ℕ
stray_byte = 128 ∷ []

-- `\bb`
abbrev pub boundary_and_b : Pattern
boundary_and_b = followed (assertion WordBoundary) b

-- `\B`
abbrev pub no_boundary : Pattern
no_boundary = assertion NotWordBoundary

-- `(k)\1`, the backreference under flag `i` or not
abbrev pub k_again : Bool → Pattern
k_again folded = followed (group 1 (character (code "k"))) (backreference folded 1)

-- `k`, and the Kelvin sign in UTF-8, which shares its simple folding
abbrev pub k_and_kelvin : List ℕ
k_and_kelvin = 107 ∷ 226 ∷ 132 ∷ 170 ∷ []

-- the edges of the set of `É` and `é`, and `É` in UTF-8
abbrev pub accented_edges : List ℕ
accented_edges = 201 ∷ 202 ∷ 233 ∷ 234 ∷ []

abbrev pub capital_accented : List ℕ
capital_accented = 195 ∷ 137 ∷ []

pub record WorkedExamples : Type 0 where
  -- `a|ab` on `xab`: the first branch, and not the longest
  pub first_branch : found_span (example_query a_or_ab 1 (codes "xab")) ≡ Some (from_to 1 2)
  -- `(?:ab|a)(?:b|)c` on `abc`
  pub goes_back : found_span (example_query three_parts 1 (codes "abc")) ≡ Some (from_to 0 3)
  -- `a??b` on `ab`
  pub lazy_optional : found_span (example_query (followed (repeat 0 (Some 1) Lazy a) b) 1 (codes "ab")) ≡ Some (from_to 0 2)
  -- `(?:a|ab)?` on `b`
  pub optional_choice : found_span (example_query (repeat 0 (Some 1) Greedy a_or_ab) 1 (codes "b")) ≡ Some (from_to 0 0)
  -- the empty pattern on `b`
  pub nothing : found_span (example_query empty 1 (codes "b")) ≡ Some (from_to 0 0)
  -- `(a*)*` on `b`: the group takes no part, since an empty turn fails
  pub empty_turn : found_captures (example_query (repeat 0 None Greedy group_of_star) 2 (codes "b")) ≡ Some (None ∷ None ∷ [])
  -- `(a*)+` on `b`: the turn that must be taken may be empty
  pub required_turn : found_captures (example_query (repeat 1 None Greedy group_of_star) 2 (codes "b")) ≡ Some (None ∷ Some (from_to 0 0) ∷ [])
  -- `(?>a|ab)c` on `abc`: an atomic group does not go back
  pub atomic_group : found_span (example_query (followed (atomic a_or_ab) c) 1 (codes "abc")) ≡ None
  -- `a{2}+a` on `aaa`
  pub possessive_count : found_span (example_query (followed (repeat 2 (Some 2) Possessive a) a) 1 (codes "aaa")) ≡ Some (from_to 0 3)
  -- `(?:a|b)(?=c)` on `bc`: one choice, of which the second side is taken
  pub one_choice : choices (example_query a_or_b_before_c 1 (codes "bc")) (λ p. true) ≡ 1
  pub one_return : returns (example_query a_or_b_before_c 1 (codes "bc")) (λ p. true) ≡ 1
  -- the same on `xxbc`: the positions before the match count too, but not where it seeks
  pub returns_at_each : returns (example_query a_or_b_before_c 1 (codes "xxbc")) (tried false (example_query a_or_b_before_c 1 (codes "xxbc"))) ≡ 3
  pub returns_sought : returns (example_query a_or_b_before_c 1 (codes "xxbc")) (tried true (example_query a_or_b_before_c 1 (codes "xxbc"))) ≡ 1
  -- `b(?=c)` on `aabc`: nothing is chosen, and going to the next position is no return
  pub no_return : returns (example_query (followed b (look_ahead false c)) 1 (codes "aabc")) (λ p. true) ≡ 0
  -- `(?<=é|ab)c` on `éc`: each branch goes back by its own size, in characters
  pub behind_a_character : found_span (example_query (followed (look_behind false accented_or_ab) c) 1 accented_and_c) ≡ Some (from_to 2 3)
  -- `(?<=a|bc)d` on `bcd`, `ad` and `cd`, and `(?<!a|bc)d` on the same
  pub behind_two_items : found_span (example_query d_behind 1 (codes "bcd")) ≡ Some (from_to 2 3)
  pub behind_one_item : found_span (example_query d_behind 1 (codes "ad")) ≡ Some (from_to 1 2)
  pub behind_neither : found_span (example_query d_behind 1 (codes "cd")) ≡ None
  pub denied_behind_two_items : found_span (example_query d_not_behind 1 (codes "bcd")) ≡ None
  pub denied_behind_one_item : found_span (example_query d_not_behind 1 (codes "ad")) ≡ None
  pub allowed_behind_neither : found_span (example_query d_not_behind 1 (codes "cd")) ≡ Some (from_to 1 2)
  -- `(a)?(?(1)b|c)` on `ab`, `c` and `ac`
  pub on_group_taken : found_span (example_query b_after_a_or_c 2 (codes "ab")) ≡ Some (from_to 0 2)
  pub on_group_not_taken : found_span (example_query b_after_a_or_c 2 (codes "c")) ≡ Some (from_to 0 1)
  pub on_group : found_span (example_query b_after_a_or_c 2 (codes "ac")) ≡ Some (from_to 1 2)
  -- `(?(a)b|c)` on `ab` and `c`, and `(?(a)|)` and `(?(a)||)` on `b`
  pub on_condition : found_span (example_query (conditional a b c) 1 (codes "ab")) ≡ Some (from_to 0 2)
  pub on_no_condition : found_span (example_query (conditional a b c) 1 (codes "c")) ≡ Some (from_to 0 1)
  pub condition_alone : found_span (example_query a_alone 1 (codes "b")) ≡ None
  pub condition_or_nothing : found_span (example_query a_or_nothing 1 (codes "b")) ≡ Some (from_to 0 0)
  -- `a+(?=c)` on `aac`, within 0..2 and 0..1: look-ahead reads past the range, and what is consumed ends within it
  pub ahead_past_the_range : found_span (within 0 2 (example_query turns_before_c 1 (codes "aac"))) ≡ Some (from_to 0 2)
  pub ahead_of_too_little : found_span (within 0 1 (example_query turns_before_c 1 (codes "aac"))) ≡ None
  -- `(?=(a+))a*b\1` on `baaabac`: look-ahead keeps what its body captured, and does not go back
  pub captured_ahead : found_captures (example_query turns_seen_ahead 2 (codes "baaabac")) ≡ Some (None ∷ Some (from_to 3 4) ∷ [])
  pub found_behind_ahead : found_span (example_query turns_seen_ahead 2 (codes "baaabac")) ≡ Some (from_to 3 6)
  -- `b(?!c)` on `bcbd`, and `(a)(?!\1)` on `aab`
  pub not_ahead : found_span (example_query (followed b (look_ahead true c)) 1 (codes "bcbd")) ≡ Some (from_to 2 3)
  pub not_again_ahead : found_span (example_query not_twice 2 (codes "aab")) ≡ Some (from_to 1 2)
  -- `a++a` on `aaa`
  pub possessive_turns : found_span (example_query (followed (repeat 1 None Possessive a) a) 1 (codes "aaa")) ≡ None
  -- `\Gb` on `ab`: at the effective start alone, which the range moves
  pub here_at_the_start : found_span (example_query b_here 1 (codes "ab")) ≡ None
  pub here_in_a_range : found_span (within 1 2 (example_query b_here 1 (codes "ab"))) ≡ Some (from_to 1 2)
  -- where `\G` is off it holds nowhere; a request suppresses it where it may, and else in vain
  pub here_on : found_span (example_query b_here 1 (codes "b")) ≡ Some (from_to 0 1)
  pub here_off : found_span (with_here_off (example_query b_here 1 (codes "b"))) ≡ None
  pub here_suppressed : found_span (without_here true (example_query b_here 1 (codes "b"))) ≡ None
  pub here_kept : found_span (without_here false (example_query b_here 1 (codes "b"))) ≡ Some (from_to 0 1)
  -- `(?<!\G)b` on `ab` and on `b`
  pub not_here : found_span (example_query b_not_here 1 (codes "ab")) ≡ Some (from_to 1 2)
  pub not_here_at_the_start : found_span (example_query b_not_here 1 (codes "b")) ≡ None
  pub not_here_suppressed : found_span (without_here true (example_query b_not_here 1 (codes "b"))) ≡ Some (from_to 0 1)
  -- `a|ab` on `abaa` where the longest is asked for, and `a*` on `baa` where an empty match is refused
  pub longest_branch : found_span (longest (example_query a_or_ab 1 (codes "abaa"))) ≡ Some (from_to 0 2)
  pub not_empty_turns : found_span (not_empty (example_query (repeat 0 None Greedy a) 1 (codes "baa"))) ≡ Some (from_to 1 3)
  -- `(k)\1` on `kK`: exact, and under flag `i`
  pub repeated_exactly : found_span (example_query (k_again false) 2 (codes "kK")) ≡ None
  pub repeated_folded : found_span (example_query (k_again true) 2 (codes "kK")) ≡ Some (from_to 0 2)
  -- the same on `k` and a Kelvin sign, which is wider, and of bytes
  pub repeated_wider : found_span (example_query (k_again true) 2 k_and_kelvin) ≡ Some (from_to 0 4)
  pub repeated_bytes : found_span (by_bytes (example_query (k_again true) 2 (codes "kK"))) ≡ Some (from_to 0 2)
  pub repeated_no_bytes : found_span (by_bytes (example_query (k_again true) 2 k_and_kelvin)) ≡ None
  -- `(?:(a)|b)\1` under flag `i` on `b`: the group has taken no part
  pub repeated_nothing : found_span (example_query (followed (or_else (group 1 a) (last_branch b)) (backreference true 1)) 2 (codes "b")) ≡ None
  -- `(?i)é` on `É`, and its trace beside that of `(?i)[é]`
  pub literal_in_any_case : found_span (example_query (in_any_case accented_edges) 1 capital_accented) ≡ Some (from_to 0 2)
  pub literal_as_a_set : (x : Context) (limit : ℕ) (s : State) → trace x limit (in_any_case accented_edges) s ≡ trace x limit (member_of accented_edges) s
  -- every haystack with `(?i)é` has the byte that `É` and `é` share, and no other of theirs; `[éÉ]` requires none of them
  pub required_of_literal : required_bytes Unicode (in_any_case accented_edges) 195 ≡ true
  pub not_required_of_literal : (required_bytes Unicode (in_any_case accented_edges) 137 || required_bytes Unicode (in_any_case accented_edges) 169) ≡ false
  pub required_of_set : (byte : ℕ) → required_bytes Unicode (member_of accented_edges) byte ≡ false
  -- `a\Kb` on `ab`
  pub kept_start : found_span (example_query (followed a (followed keep_start b)) 1 (codes "ab")) ≡ Some (from_to 1 2)
  -- `(?<!a)b` on `abb`
  pub not_behind : found_span (example_query (followed (look_behind true a) b) 1 (codes "abb")) ≡ Some (from_to 2 3)
  -- `\bb` on `a b`, and on `ab`: inside a word there is no boundary
  pub word_boundary : found_span (example_query boundary_and_b 1 (codes "a b")) ≡ Some (from_to 2 3)
  pub inside_a_word : found_span (example_query boundary_and_b 1 (codes "ab")) ≡ None
  -- `\bb` on `ab` within 1..2: what stands before the range is seen
  pub before_the_range : found_span (within 1 2 (example_query boundary_and_b 1 (codes "ab"))) ≡ None
  -- `\b{end-half}` on `ab` within 0..1: what follows the range is seen
  pub after_the_range : found_span (within 0 1 (example_query (assertion WordEndHalf) 1 (codes "ab"))) ≡ None
  -- `\B` on a byte that is no character: on both sides of it there is no word character
  pub before_a_stray_byte : found_span (anywhere_from 0 (example_query no_boundary 1 stray_byte)) ≡ Some (from_to 0 0)
  pub after_a_stray_byte : found_span (anywhere_from 1 (example_query no_boundary 1 stray_byte)) ≡ Some (from_to 1 1)
  -- `\B` on `éc` from 1: inside a character none ends and none starts
  pub inside_a_character : found_span (anywhere_from 1 (example_query no_boundary 1 accented_and_c)) ≡ Some (from_to 1 1)
  -- `^a` and `a$` on `a`, where the request suppresses the text's ends, without leave and with it
  pub start_kept : found_span (without_ends false (example_query (followed (assertion TextStart) a) 1 (codes "a"))) ≡ Some (from_to 0 1)
  pub start_suppressed : found_span (without_ends true (example_query (followed (assertion TextStart) a) 1 (codes "a"))) ≡ None
  pub end_kept : found_span (without_ends false (example_query (followed a (assertion TextEnd)) 1 (codes "a"))) ≡ Some (from_to 0 1)
  pub end_suppressed : found_span (without_ends true (example_query (followed a (assertion TextEnd)) 1 (codes "a"))) ≡ None
  -- `(?m)^a` and `a\Z` heed no suppression
  pub line_start_kept : found_span (without_ends true (example_query (followed (assertion LineStart) a) 1 (codes "a"))) ≡ Some (from_to 0 1)
  pub last_line_kept : found_span (without_ends true (example_query (followed a (assertion LastLine)) 1 (codes "a"))) ≡ Some (from_to 0 1)
