-- The bytes with which items begin, part by part.
use Rattle.std.proofs.Common.{◌≡◌, ℕ, ◌+◌, ◌<◌, Bool, ◌||◌, List, [], ◌∷◌, length, map, drop, get_or, refl, sym, ap, ◌∙◌}
use Rattle.fancy_tree.specs.declared.tree.Tree.{Tree}
use Rattle.fancy_tree.specs.declared.tree.Meaning.{Meaning}
use Rattle.fancy_tree.specs.Pattern.{Pattern, in_sequence, in_choice, pattern_of}
use Rattle.fancy_bytes.specs.Reads.{item_starts, item_starts_in}
use Rattle.fancy_bytes.proofs.BoolLemmas.{or_assoc, or_nothing}
use Rattle.fancy_bytes.proofs.ItemLemmas.{first_of_none}
use Rattle.fancy_bytes.proofs.ListLemmas.{next_part}

pub starts-in_sequence : (m : Meaning) (ps : List Pattern) (b : ℕ) → item_starts m (in_sequence ps) b ≡ item_starts_in m ps b
starts-in_sequence m [] b = refl
starts-in_sequence m (p ∷ []) b = sym (or_nothing (item_starts m p b))
starts-in_sequence m (p ∷ q ∷ ps) b = ap (λ c. item_starts m p b || c) (starts-in_sequence m (q ∷ ps) b)

pub starts-in_choice : (m : Meaning) (ps : List Pattern) (b : ℕ) → item_starts m (in_choice ps) b ≡ item_starts_in m ps b
starts-in_choice m [] b = first_of_none m b
starts-in_choice m (p ∷ []) b = sym (or_nothing (item_starts m p b))
starts-in_choice m (p ∷ q ∷ ps) b = ap (λ c. item_starts m p b || c) (starts-in_choice m (q ∷ ps) b)

-- the part at i adds its bytes to `now`; what was to come still is
pub starts_step : (m : Meaning) (ts : List Tree) (i : ℕ) (t : Tree) (b : ℕ) (was now next : Bool) → i < length ts → t ≡ get_or ts i t
    → next ≡ (now || item_starts m (pattern_of t) b) → (now || item_starts_in m (drop i (map pattern_of ts)) b) ≡ was
    → (next || item_starts_in m (drop (i + 1) (map pattern_of ts)) b) ≡ was
starts_step m ts i t b was now next lt e adds before =
    ap (λ x. x || item_starts_in m (drop (i + 1) (map pattern_of ts)) b) adds
    ∙ or_assoc now (item_starts m (pattern_of t) b) _
    ∙ ap (λ x. now || x) (sym (ap (λ ps. item_starts_in m ps b) (next_part ts i t lt e)))
    ∙ before
