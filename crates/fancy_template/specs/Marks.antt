-- Texts that are to stand for themselves in a template. A mark is the character after which a form may stand.
use Rattle.std.specs.Prelude.{ℕ, ◌==◌, Bool, [], ◌∷◌, flat_map, if◌then◌else◌}
use Rattle.std.specs.List.{list_any}
use Rattle.fancy_tree.specs.Text.{Text}

-- in a template each mark stands twice
abbrev pub doubled_mark : ℕ → ℕ → Text
doubled_mark mark c = if c == mark then c ∷ c ∷ [] else c ∷ []

abbrev pub has_mark : ℕ → Text → Bool
has_mark mark t = list_any (λ c. c == mark) t

abbrev pub escaped_template : ℕ → Text → Text
escaped_template mark t = flat_map (doubled_mark mark) t
