-- The way past items of one byte each.
use Rattle.std.proofs.Common.{◌≡◌, ℕ, zero, suc, ◌+◌, ◌<◌, List, Option, Some, None, refl, ap, ◌∙◌, arith, slice_index, slice_set}
use Rattle.std.proofs.lemmas.List.{set-set}
use Rattle.fancy_input.specs.declared.span.Span.{Span}
use Rattle.fancy_input.specs.Spans.{from_to}
use Rattle.fancy_trail.specs.Frames.{Spot}
use Rattle.fancy_trail.specs.Ways.{at_instr, at_place, opened_at, closed_at, past_one, past_items}

-- the way past items stands where they end, at the same instruction, by the same limit
pub one_at : (group : Option ℕ) (x : Spot) → (past_one group x).at ≡ x.at
one_at None x = refl
one_at (Some g) x = refl

pub one_limit : (group : Option ℕ) (x : Spot) → (past_one group x).limit ≡ x.limit
one_limit None x = refl
one_limit (Some g) x = refl

pub items_limit : (group : Option ℕ) (n : ℕ) (x : Spot) → (past_items group n x).limit ≡ x.limit
items_limit group zero x = refl
items_limit group (suc n) x = items_limit group n (past_one group x) ∙ one_limit group x

pub one_place : (group : Option ℕ) (x : Spot) → (past_one group x).state.place ≡ x.state.place + 1
one_place None x = refl
one_place (Some g) x = refl

-- items that stand in no group
none_items : (n q : ℕ) (x : Spot) → at_instr q (past_items None n x) ≡ at_place q (x.state.place + n) x
none_items zero q x = let e : x.state.place ≡ x.state.place + 0 = omega arith in ap (λ (p : ℕ). at_place q p x) e
none_items (suc n) q x =
    let e : x.state.place + 1 + n ≡ x.state.place + suc n = omega arith in
    none_items n q (past_one None x) ∙ ap (λ (p : ℕ). at_place q p x) e

pub alone_items : (group : Option ℕ) (n q : ℕ) (x : Spot) → (0 < n → group ≡ None) → at_instr q (past_items group n x) ≡ at_place q (x.state.place + n) x
alone_items group zero q x alone = let e : x.state.place ≡ x.state.place + 0 = omega arith in ap (λ (p : ℕ). at_place q p x) e
alone_items group (suc n) q x alone =
    ap (λ (o : Option ℕ). at_instr q (past_items o (suc n) x)) (alone (omega arith)) ∙ none_items (suc n) q x

-- items that stand in a group: it holds the last one
module _ (g q : ℕ) where
  -- the way at a place, where the group began at another, after these spans and starts
  abbrev held_in : Spot → ℕ → ℕ → List (Option Span) → List ℕ → Spot
  held_in x start end spans starts =
      record x { at = q; state = record x.state { place = end; captures = slice_set spans g (Some (from_to (slice_index (slice_set starts g start) g) end)) }; starts = slice_set starts g start }

  pub group_items : (n : ℕ) (x : Spot) → at_instr q (past_items (Some g) (suc n) x) ≡ closed_at g q (at_place q (x.state.place + suc n) (opened_at g q (at_place q (x.state.place + n) x)))
  group_items zero x =
      let start : x.state.place ≡ x.state.place + 0 = omega arith in
      ap (λ (p : ℕ). held_in x p (x.state.place + 1) x.state.captures x.starts) start
  group_items (suc n) x =
      let y = past_one (Some g) x in
      let start : x.state.place + 1 + n ≡ x.state.place + suc n = omega arith in
      let end : x.state.place + 1 + suc n ≡ x.state.place + suc (suc n) = omega arith in
      group_items n y
      ∙ ap (λ (p : ℕ). held_in x p (x.state.place + 1 + suc n) y.state.captures y.starts) start
      ∙ ap (λ (p : ℕ). held_in x (x.state.place + suc n) p y.state.captures y.starts) end
      ∙ again (x.state.place + suc n) (x.state.place + suc (suc n))
    where
      again : (a b : ℕ) → held_in x a b (past_one (Some g) x).state.captures (past_one (Some g) x).starts ≡ held_in x a b x.state.captures x.starts
      again a b =
          let starts_same : slice_set (slice_set x.starts g x.state.place) g a ≡ slice_set x.starts g a = set-set x.starts g x.state.place a in
          let span = Some (from_to (slice_index (slice_set x.starts g a) g) b) in
          ap (λ (v : List ℕ). record x { at = q; state = record x.state { place = b; captures = slice_set (past_one (Some g) x).state.captures g (Some (from_to (slice_index v g) b)) }; starts = v }) starts_same
          ∙ ap (λ (c : List (Option Span)). record x { at = q; state = record x.state { place = b; captures = c }; starts = slice_set x.starts g a })
          (set-set x.state.captures g (Some (from_to (slice_index (slice_set x.starts g x.state.place) g) (x.state.place + 1))) span)
