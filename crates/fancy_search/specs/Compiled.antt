-- What a text spells, and what a program keeps of it beside its tree.
use Rattle.std.specs.Prelude.{◌≡◌, ◌≤◌, ◌+◌, ℕ, List, chars}
use Rattle.fancy_tree.specs.GroupNumbers.{Rising}
use Rattle.fancy_tree.specs.Pattern.{Pattern}
use Rattle.fancy_tree.specs.Text.{Text}
use Rattle.fancy_syntax.specs.Dialect.{IsPattern}
use Rattle.fancy_code.specs.Compile.{IsCodeOf}
use Rattle.fancy_code.specs.declared.code.Code.{Code}
use Rattle.fancy_search.specs.declared.options.Options.{Options}
use Rattle.fancy_search.specs.Options.{dialect_of}

-- A text, by its bytes, spells the pattern under the options; it has so many groups, with group 0, the whole match, and these names.
pub record IsSpelled (o : Options) (text : List ℕ) (p : Pattern) (groups : ℕ) (names : List (Text × ℕ)) : Type 0 where
  pub spelled : IsPattern (dialect_of o) (chars text) p
  pub counted : spelled.end.opened + 1 ≡ groups
  pub named : spelled.end.names ≡ names

-- The code is that of the pattern, there is group 0 at least, and each name stands on a group after it.
pub record IsCompiled (p : Pattern) (code : Code) (names : List (Text × ℕ)) : Type 0 where
  pub coded : IsCodeOf p code
  pub has_group_zero : 1 ≤ code.groups
  pub rising : Rising 1 code.groups names
