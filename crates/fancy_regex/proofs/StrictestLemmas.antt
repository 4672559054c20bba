-- What the strictest member of a set can search, each can.
use Rattle.std.proofs.Common.{◌≡◌, ◌<◌, ◌+◌, ℕ, false, List, Some, length, sym, subst, arith, inl, inr, ◌∙◌, slice_get, slice_index_or}
use Rattle.std.proofs.lemmas.Bool.{true≢false}
use Rattle.std.proofs.lemmas.Bool.Decides.{leb_tells}
use Rattle.std.proofs.lemmas.Option.{get_or_from_slice_get}
use Rattle.fancy_tree.specs.Modes.{keeps_characters}
use Rattle.fancy_core.specs.declared.regex.Regex.{Regex}
use Rattle.fancy_core.specs.Regexes.{options_in}
use Rattle.fancy_regex.specs.Strictest.{IsStrictest, KeepsCharacters}

-- where the matches of one member may stand anywhere, it decides
pub first_decides : (members : List Regex) (index : ℕ) (member : Regex) → slice_get members index ≡ Some member → index < length members
    → keeps_characters (options_in member).bytes_mode ≡ false → IsStrictest members index
first_decides members index member here inside cuts = record {
  inside = λ some. inside;
  decides = λ d keeps. absurd (true≢false (sym (subst KeepsCharacters (get_or_from_slice_get members index member d here) keeps) ∙ cuts));
}

-- so it is of one member more
pub one_more_keeps : (members : List Regex) (index : ℕ) (member : Regex) → slice_get members index ≡ Some member → KeepsCharacters member
    → ((k : ℕ) (d : Regex) → k < index → KeepsCharacters (slice_index_or members k d)) → (k : ℕ) (d : Regex) → k < index + 1 → KeepsCharacters (slice_index_or members k d)
one_more_keeps members index member here keeps below k d lt =
    elim (leb_tells index k) [
      | inl past ↦ (
          let same : k ≡ index = omega (arith, past.1, lt) in
          subst (λ (j : ℕ). KeepsCharacters (slice_index_or members j d)) (sym same) (subst KeepsCharacters (sym (get_or_from_slice_get members index member d here)) keeps))
      | inr before ↦ below k d before.1
    ]
