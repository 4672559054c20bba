-- Blanks and comments at the start of a text.
use Rattle.std.specs.Prelude.{ℕ, ◌==◌, ◌&&◌, Bool, [], ◌∷◌, drop, Option, Some, None, if◌then◌else◌}
use Prim.Native.Char.{code}
use Rattle.fancy_tree.specs.Text.{Text, ◌∈◌}
use Rattle.fancy_class.specs.Words.{begins}

-- space, TAB, LF and CR
abbrev pub is_blank : ℕ → Bool
is_blank c = c ∈ " \t\n\r"

-- what follows the line that stands first, with its end
abbrev pub past_line : Text → Text
past_line [] = []
past_line (c ∷ t) = if c == code "\n" then t else past_line t

-- what follows the next `)`, if there is one
abbrev pub past_comment : Text → Option Text
past_comment [] = None
past_comment (c ∷ t) = if c == code ")" then Some t else past_comment t

-- what follows the blank or comment that stands first, if one does; blanks, and lines after `#`, only where the flag is set
abbrev pub past_blank : Bool → Text → Option Text
past_blank ignore_blanks [] = None
past_blank ignore_blanks (c ∷ t) =
    if is_blank c && ignore_blanks then Some t
    else if (code "#" == c) && ignore_blanks then Some (past_line t)
    else if begins "(?#" (c ∷ t) then past_comment (drop 2 t)
    else None
