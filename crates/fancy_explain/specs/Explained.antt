-- What an explanation of an error holds.
use Rattle.std.specs.Prelude.{ℕ, List, [], Option, ◌++◌, length, min}
use Rattle.std.specs.Io.KnownBytes.{Appends}
use Rattle.fancy_lines.specs.LineColumns.{line_of}
use Rattle.fancy_tree.specs.declared.error.Error.{Error}
use Rattle.fancy_tree.specs.declared.error.Error.TheVariants as error

-- a writer has taken some bytes; `contents` says what is known of what it holds
abbrev pub WritesText : {W : Type 0} → (W → Option (List ℕ)) → W → W → Type 0
WritesText contents before after = (text : List ℕ) × Appends (contents before) (contents after) text

-- a writer has taken a text that begins with the name and has the line in it
abbrev pub Explains : {W : Type 0} → (W → Option (List ℕ)) → W → List ℕ → List ℕ → W → Type 0
Explains contents before name line after =
    (middle : List ℕ) × (rest : List ℕ) × Appends (contents before) (contents after) (name ++ (middle ++ (line ++ rest)))

-- the line of the pattern in which the fault is, where the error tells a place
abbrev pub line_of_fault : Error → List ℕ → List ℕ
line_of_fault (error.ParseError place kind) pattern = line_of pattern (min place (length pattern))
line_of_fault error.Memory pattern = []
line_of_fault (error.CompileError e) pattern = []
line_of_fault (error.RuntimeError e) pattern = []
