-- The limits that patterns and searches have, each in one place.
use Rattle.std.specs.Prelude.{ℕ}

-- parentheses that are open at one place of a pattern
abbrev pub most_parentheses : ℕ
most_parentheses = 128

-- brackets that are open at one place of a class
abbrev pub most_brackets : ℕ
most_brackets = 128

-- nodes of a pattern, with counted repeats written out
abbrev pub most_nodes : ℕ
most_nodes = 4000000

-- turns that a count may name
abbrev pub most_turns : ℕ
most_turns = 4294967295

-- the largest number of a group that a reference, or the refusal of one, tells
abbrev pub largest_told : ℕ
largest_told = 4294967295

-- branches that a search for a hard pattern has saved at one time, where no other limit is set
abbrev pub most_branches : ℕ
most_branches = 1000000

-- returns of such a search, where no other limit is set
abbrev pub most_returns : ℕ
most_returns = 1000000
