-- Small lists of matches that are known from elsewhere.
use Prim.Native.Char.{code}
use Rattle.std.specs.Prelude.{◌≡◌, List, [], ◌∷◌, None, map, true, codes}
use Rattle.fancy_tree.specs.declared.tree.RepeatKind.TheVariants.{Greedy}
use Rattle.fancy_tree.specs.Pattern.{Pattern, character, keep_start, continue_here, repeat, followed, or_else, last_branch}
use Rattle.fancy_input.specs.declared.span.Span.{Span}
use Rattle.fancy_input.specs.Spans.{from_to}
use Rattle.fancy_meaning.specs.Search.{Query}
use Rattle.fancy_meaning.specs.Examples.{example_query, a, b}
use Rattle.fancy_search.specs.MatchList.{span_of_item, matches}
use Rattle.fancy_search.specs.Remaining.{iteration}

-- the spans of the matches in a text
abbrev pub spans_listed : Query → List Span
spans_listed q = map span_of_item (matches (iteration true q) q.request.start)

-- `\Gx*`
abbrev pub turns_here : Pattern
turns_here = followed continue_here (repeat 0 None Greedy (character (code "x")))

-- `\G(?:a|b)`
abbrev pub branch_here : Pattern
branch_here = followed continue_here (or_else a (last_branch b))

-- `a\K`
abbrev pub keep_after_a : Pattern
keep_after_a = followed a keep_start

-- `foo\Kbar`
abbrev pub bar_after_foo : Pattern
bar_after_foo = followed (character 102) (followed (character 111) (followed (character 111) (followed keep_start (followed b (followed a (character 114))))))

pub record WorkedLists : Type 0 where
  -- `\Gx*` on `ab`: the empty match at the start, after which `\G` is off
  pub here_once : spans_listed (example_query turns_here 1 (codes "ab")) ≡ from_to 0 0 ∷ []
  -- on `xxa`: the empty match after the first is passed over, and `\G` is off after it
  pub here_passed_over : spans_listed (example_query turns_here 1 (codes "xxa")) ≡ from_to 0 2 ∷ []
  -- `\G(?:a|b)` on `abxa`: each match begins where the one before ended
  pub here_again : spans_listed (example_query branch_here 1 (codes "abxa")) ≡ from_to 0 1 ∷ from_to 1 2 ∷ []
  -- `a*` on `baa`
  pub turns : spans_listed (example_query (repeat 0 None Greedy a) 1 (codes "baa")) ≡ from_to 0 0 ∷ from_to 1 3 ∷ []
  -- `a\K` on `aa`: an empty match at 1, so that the next search starts at 2
  pub kept_at_the_end : spans_listed (example_query keep_after_a 1 (codes "aa")) ≡ from_to 1 1 ∷ []
  -- `b|a\K` on `ba`: the empty match at 2 was found at 1, where the one before ended, and is not passed over
  pub kept_after_a_match : spans_listed (example_query (or_else b (last_branch keep_after_a)) 1 (codes "ba")) ≡ from_to 0 1 ∷ from_to 2 2 ∷ []
  -- `foo\Kbar` on `foobar`
  pub kept_inside : spans_listed (example_query bar_after_foo 1 (codes "foobar")) ≡ from_to 3 6 ∷ []
