-- References to groups, to which tests of groups belong: how they are written, what they name, and which group that is once the whole pattern is read.
use Rattle.std.specs.Prelude.{ℕ, ◌+◌, ◌-◌, ◌==◌, ◌||◌, ◌&&◌, Bool, not, nat_le, min, List, [], ◌∷◌, length, drop, Option, Some, None, Result, Ok, Err, if◌then◌else◌}
use Prim.Native.Char.{code}
use Rattle.fancy_tree.specs.Limits.{largest_told}
use Rattle.fancy_tree.specs.Text.{Text}
use Rattle.fancy_class.specs.Words.{is_at_any, is_at, begins}
use Rattle.fancy_syntax.specs.Counts.{is_at_digit, past_digits, decimal, are_digits}
use Rattle.fancy_tree.specs.Names.{name_here, past_name, last_named}

-- what a reference names
pub data Target : Type 0 where
  -- the group of this number
  numbered : ℕ → Target
  -- no group: one so many back from a place before which fewer were opened, or one of so large a number
  missing : ℕ → Target
  -- the last group of this name
  called : Text → Target
  -- the last group of this name, or where no group has it the one whose number these digits are
  called_or_numbered : Text → Target

-- why a reference names no group
pub data ReferenceFault : Type 0 where
  -- groups are referred to by name alone
  by_name_alone : ReferenceFault
  -- no group has this number; one above 2^32 - 1 stands as that
  no_number : ℕ → ReferenceFault
  -- no group has this name
  no_name : Text → ReferenceFault

-- the group that is so many back from those opened so far: 1 is the last one
abbrev pub back : ℕ → ℕ → Target
back opened k = if nat_le 1 k && nat_le k opened then numbered (opened + 1 - k) else missing (min k largest_told)

-- the row of digits that stands after a backslash, if its first is not 0
abbrev pub number_reference : Text → Option (Target × Text)
number_reference t = if is_at "123456789" t && nat_le (decimal t) largest_told then Some (numbered (decimal t), past_digits t) else None

-- a row of digits up to this delimiter
abbrev pub distance_reference : ℕ → ℕ → Text → Option (Target × Text)
distance_reference opened delimiter t =
    if is_at_digit t && is_at_any (delimiter ∷ []) (past_digits t) then Some (back opened (decimal t), drop 1 (past_digits t)) else None

-- a name up to this delimiter
abbrev pub name_reference : ℕ → Text → Option (Target × Text)
name_reference delimiter t =
    if (length (name_here t) == 0) || not (is_at_any (delimiter ∷ []) (past_name t)) then None
    else Some (called_or_numbered (name_here t), drop 1 (past_name t))

-- a name, or a dash and a distance, up to this delimiter
abbrev pub delimited_target : ℕ → ℕ → Text → Option (Target × Text)
delimited_target opened delimiter t = if is_at "-" t then distance_reference opened delimiter (drop 1 t) else name_reference delimiter t

-- the reference that a text begins with, where so many groups were opened before it, and what follows it
abbrev pub read_reference : ℕ → Text → Option (Target × Text)
read_reference opened t =
    if begins "\\k<" t then delimited_target opened (code ">") (drop 3 t)
    else if begins "\\k'" t then delimited_target opened (code "'") (drop 3 t)
    else if is_at "\\" t then number_reference (drop 1 t)
    else None

-- the group of this number; none has one above 2^32 - 1
abbrev pub within_largest : ℕ → Target
within_largest n = if nat_le n largest_told then numbered n else missing largest_told

-- a row of digits up to a parenthesis
abbrev pub number_condition : Text → Option (Target × Text)
number_condition t = if is_at_digit t && is_at ")" (past_digits t) then Some (within_largest (decimal t), drop 1 (past_digits t)) else None

-- a name up to this delimiter and a parenthesis
abbrev pub name_condition : ℕ → Text → Option (Target × Text)
name_condition delimiter t =
    if (length (name_here t) == 0) || not (is_at_any (delimiter ∷ []) (past_name t) && is_at ")" (drop 1 (past_name t))) then None
    else Some (called (name_here t), drop 2 (past_name t))

-- The group that a condition tests, and what follows the condition's parenthesis: none where the condition is no number and no name in `<>` or quotes as a whole.
abbrev pub group_condition : Text → Option (Target × Text)
group_condition t =
    if is_at "<" t then name_condition (code ">") (drop 1 t)
    else if is_at "'" t then name_condition (code "'") (drop 1 t)
    else number_condition t

-- a condition in a form that is left out of the dialect begins here: a definition, or look-around without parentheses of its own
abbrev pub is_left_out : Text → Bool
is_left_out t = begins "DEFINE)" t || is_at "?" t

-- what may only be a reference begins here
abbrev pub begins_reference : Text → Bool
begins_reference t = is_at "\\" t && is_at "123456789k" (drop 1 t)

-- the groups of a whole pattern: whether they are referred to by name alone, how many there are, and their names
pub record Groups : Type 0 where
  pub by_name : Bool
  pub opened : ℕ
  pub names : List (Text × ℕ)

-- the group of this number
abbrev pub group_numbered : Groups → ℕ → Result ℕ ReferenceFault
group_numbered g n =
    if g.by_name then Err by_name_alone
    else if nat_le 1 n && nat_le n g.opened then Ok n
    else Err (no_number (min n largest_told))

-- the group of the number that these digits are
abbrev pub group_in_digits : Groups → Text → Result ℕ ReferenceFault
group_in_digits g t = if are_digits t then group_numbered g (decimal t) else Err (no_name t)

-- this group, or where there is none what else is found
abbrev pub group_or : Option ℕ → Result ℕ ReferenceFault → Result ℕ ReferenceFault
group_or None other = other
group_or (Some n) other = Ok n

-- the group that a reference names, or why it names none
abbrev pub resolve : Groups → Target → Result ℕ ReferenceFault
resolve g (numbered n) = group_numbered g n
resolve g (missing n) = Err (if g.by_name then by_name_alone else no_number n)
resolve g (called t) = group_or (last_named t g.names) (Err (no_name t))
resolve g (called_or_numbered t) = group_or (last_named t g.names) (group_in_digits g t)

abbrev pub fault_in : Result ℕ ReferenceFault → Option ReferenceFault
fault_in (Ok n) = None
fault_in (Err f) = Some f

abbrev pub group_in : Result ℕ ReferenceFault → ℕ
group_in (Ok n) = n
group_in (Err f) = 0

-- why a reference names no group
abbrev pub target_fault : Groups → Target → Option ReferenceFault
target_fault g w = fault_in (resolve g w)

-- the group that a reference names
abbrev pub group_for : Groups → Target → ℕ
group_for g w = group_in (resolve g w)
