-- What is known of the groups, and the log of what was known before.
use Rattle.std.specs.Prelude.{◌≡◌, ℕ, suc, ◌*◌, ◌<◌, Bool, nat_lt, List, [], ◌∷◌, length, map, replicate, slice_set, slice_index_or}
use Rattle.fancy_code.specs.Thread.{empty_slot}
use Rattle.fancy_code.specs.declared.slot.Slot.{Slot}
use Rattle.fancy_trail.specs.declared.log.Cell.{Cell}
use Rattle.fancy_trail.specs.declared.log.Write.{Write}

abbrev pub cell_slot : Cell → Slot
cell_slot c = c.slot

abbrev pub cell_level : Cell → ℕ
cell_level c = c.level

abbrev pub empty_cell : Cell
empty_cell = record { slot = empty_slot; level = 0 }

abbrev pub old_cell : Write → Cell
old_cell w = w.old

abbrev pub old_slot : Write → Slot
old_slot w = w.old.slot

abbrev pub old_level : Write → ℕ
old_level w = w.old.level

-- the list before these writes, the last of which is undone first, where `old` tells what each wrote over
abbrev pub undone_by : {A : Type 0} → (Write → A) → List A → List Write → List A
undone_by old xs [] = xs
undone_by old xs (w ∷ log) = slice_set (undone_by old xs log) w.group (old w)

-- Whether a write stays in the log where so many branches are saved: the one before it to its group was logged when fewer were.
abbrev pub is_kept : ℕ → Write → Bool
is_kept level w = nat_lt w.old.level level

-- the levels once those of the groups of these writes were set to one
abbrev pub lowered : ℕ → List ℕ → List Write → List ℕ
lowered level levels [] = levels
lowered level levels (w ∷ log) = lowered level (slice_set levels w.group level) log

-- These writes, the first of which is write n of a log, led from the levels `before` to `after`. `depth n` branches were saved at write n, which
-- is the level that it gave its group, and that was lower before.
abbrev pub Climbs : (ℕ → ℕ) → ℕ → List ℕ → List Write → List ℕ → Type 0
Climbs depth n before [] after = before ≡ after
Climbs depth n before (w ∷ log) after =
    (w.old.level ≡ slice_index_or before w.group 0) × (w.old.level < depth n) × (w.group < length before) × Climbs depth (suc n) (slice_set before w.group (depth n)) log after

-- nothing was written to these cells, and no write to them was logged
abbrev pub IsUnwritten : List Write → List Cell → Type 0
IsUnwritten log cells = (log ≡ []) × (map cell_slot cells ≡ replicate (length cells) empty_slot)

-- how many writes a log holds at most: one for each group and saved branch
abbrev pub writes_allowed : ℕ → ℕ → ℕ
writes_allowed branches groups = branches * groups
