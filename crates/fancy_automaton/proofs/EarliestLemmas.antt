-- Whether there is a match, step by step.
use Rattle.std.proofs.Common.{◌≡◌, ℕ, ◌+◌, ◌∷◌, ◌++◌, [], ◌≤◌, ◌<◌, ◌≢◌, inl, inr, List, Option, Some, None, true, false, refl, sym, ap, ◌∙◌, subst, arith, length, map, get_or, option_map}
use Rattle.std.specs.Prelude.{is_some, slice_index}
use Rattle.std.specs.Option.{option_or}
use Rattle.fancy_input.specs.declared.span.Span.{Span}
use Rattle.fancy_code.specs.declared.attempt.Attempt.{Attempt}
use Rattle.fancy_code.specs.Attempt.{instrs_in, may_end_in}
use Rattle.fancy_meaning.specs.Reading.{unit_read}
use Rattle.fancy_alphabet.specs.Alike.{IsSeenLike}
use Rattle.fancy_alphabet.specs.Sights.{seen_in}
use Rattle.fancy_alphabet.specs.Units.{place_after}
use Rattle.fancy_alphabet.specs.declared.sight.Sight.{Sight}
use Rattle.fancy_states.specs.declared.cells.Cell.{Cell}
use Rattle.fancy_states.specs.declared.cells.Cells.{Cells}
use Rattle.fancy_states.specs.declared.rows.Target.{Target}
use Rattle.fancy_states.specs.declared.transitions.Transition.{Transition}
use Rattle.fancy_states.specs.Cells.{KeepsRows, HasRow, HasRows, HasCell, HoldsFor, IsCell}
use Rattle.fancy_states.specs.Search.{Going, IsFollowed, found_or}
use Rattle.fancy_states.specs.Steps.{IsStep, at_of, start_in, span_by}
use Rattle.fancy_states.specs.Transitions.{IsMatching}
use Rattle.fancy_states.specs.Ways.{match_end}
use Rattle.fancy_states.proofs.CellLemmas.{cell_is, keeps_row, row_ways}
use Rattle.fancy_states.proofs.SearchLemmas.{no_items}
use Rattle.fancy_states.proofs.StepLemmas.{step_alike}
use Rattle.fancy_automaton.specs.declared.hop.Stand.{Stand}
use Rattle.fancy_automaton.specs.Places.{IsNextPlace}
use Rattle.fancy_automaton.specs.Earliest.{FindsNone, FindsSome, IsWaiting}
use Rattle.fancy_automaton.specs.Sole.{IsAmid}
use Rattle.fancy_automaton.specs.Told.{Sees}
use Rattle.fancy_automaton.proofs.GoingLemmas.{going_end, going_idle, going_on, going_same, going_step}
use Rattle.fancy_automaton.proofs.SoleLemmas.{Tells, cell_there, matching, some_of}

or_some : (o : Option (ℕ × ℕ)) (e : ℕ × ℕ) → is_some (option_or o (Some e)) ≡ true
or_some None e = refl
or_some (Some x) e = refl

-- once something was found, there is a match
pub some_match : (a : Attempt) (ways starts : List ℕ) (s : Span) (place resume : ℕ) → Going a ways starts (Some s) place resume → FindsSome a
some_match a ways starts s place resume g deep begun = sym (ap is_some (sym (g.under deep begun).answer) ∙ or_some _ _)

-- past the last place there is none where nothing was found
pub none_match : (a : Attempt) (ways starts : List ℕ) (place : ℕ) → a.last < place → place ≤ a.last + 1 → Going a ways starts None place place → FindsNone a
none_match a ways starts place over within g deep begun = ap is_some (going_end a ways starts None place deep over within begun g)

pub none_of : (o : Option ℕ) → is_some o ≡ false → o ≡ None
none_of None e = refl
none_of (Some f) e = absurd (cc)

-- its rows are those of the ways
pub rows_at : (a : Attempt) (cells : Cells) (at : Stand) (rows : Target) (is : IsAmid a cells at) → rows ≡ record { next = at.next; begun = at.begun }
    → HasRows cells.rows.lists.items rows.next rows.begun is.0 a.code.now.start
rows_at a cells at rows is same =
    subst (λ (t : Target). HasRows cells.rows.lists.items t.next t.begun is.0 a.code.now.start) (sym same) (record { waits = is.2.waits; opens = is.2.opens })

-- where it stands, these ways wait
pub waits_at : (a : Attempt) (cells : Cells) (at : Stand) (place : ℕ) (rows : Target) → at.place ≡ place → at.next ≡ rows.next → at.begun ≡ rows.begun → IsAmid a cells at
    → IsWaiting a cells (record { place = place; rows = rows })
waits_at a cells at place rows here next begun is =
    let it = is.2 in
    let rs = cells.rows.lists.items in
    record {
      ways = is.0;
      starts = is.1;
      followed = it.followed;
      kept = it.kept;
      all = it.all;
      rows = record {
        waits = subst (λ (r : ℕ). HasRow rs r is.0) next it.waits;
        opens = subst (λ (r : ℕ). HasRow rs r (is.0 ++ a.code.now.start ∷ [])) begun it.opens;
      };
      going = subst (λ (p : ℕ). Going a is.0 is.1 None p p) here it.going;
      within = omega (arith, it.within, here);
    }

-- the ways wait at a place where a match may begin and end
pub record Here (a : Attempt) (ways starts : List ℕ) (place : ℕ) : Type 0 where
  pub going : Going a ways starts None place place
  pub good : may_end_in a place ≡ true
  pub within : place ≤ a.last

-- so it is where one waits
pub here_waiting : (a : Attempt) (ways starts : List ℕ) (place : ℕ) → ways ≢ [] → Going a ways starts None place place → Here a ways starts place
here_waiting a ways starts place some g =
    let here : (may_end_in a place ≡ true) × (place ≤ a.last) = elim g.rests [
      | inl here ↦ here
      | inr none ↦ absurd (some (no_items ways (sym g.even ∙ ap length none)))
    ] in
    record { going = g; good = here.0; within = here.1 }

-- and at the next place where a match may begin, if none does
pub here_next : (a : Attempt) (ways starts : List ℕ) (from place : ℕ) → ways ≡ [] → IsNextPlace a from place → place ≤ a.last → Going a ways starts None from from
    → Here a ways starts place
here_next a ways starts from place none next within g = record {
  going = going_idle a ways starts None from place next.forth next.ends (no_items starts (g.even ∙ ap length none)) next.passed g;
  good = next.good within;
  within = within;
}

-- a match is found in a step that the table tells
pub table_match : (a : Attempt) (cells : Cells) (at : Stand) (past : ℕ) (asked : Sight) (t : Transition) (sees : Sees a cells.table.classes at.place past asked) → IsAmid a cells at
    → Tells a cells at past asked t sees at.begun IsMatching → FindsSome a
table_match a cells at past asked t sees is told =
    let there = cell_there cells.cells.items t.cell told.0.stands in
    let some = some_of there.0.matched (told.1 there.0 there.1) in
    let st = matching a cells at is.0 is.1 None at.begun past asked t there.0 sees is.2 refl told.0 there.1 some.0 _ some.1 refl in
    some_match a _ _ _ _ _ st.stands.going

-- a step that is remembered, or computed, from the row of a place on what is read there
module _ (a : Attempt) (cells later : Cells) (ways starts : List ℕ) (place row : ℕ) (asked : Sight) (k : ℕ) (d : Cell)
    (within : place ≤ a.last) (good : may_end_in a place ≡ true) (followed : IsFollowed a) (going : Going a ways starts None place place)
    (source : HasRow cells.rows.lists.items row (ways ++ a.code.now.start ∷ [])) (like : IsSeenLike a place asked) (holds : HoldsFor later a.code.now)
    (kept : KeepsRows cells.rows.lists.items later.rows.lists.items) (has : HasCell later.cells.items k row asked) (there : d ≡ get_or later.cells.items k d) where
  abbrev begun : List ℕ
  begun = ways ++ a.code.now.start ∷ []

  cell : IsCell a.code.now later.rows.lists.items row asked d.next d.begun d.came.items d.matched d.origin
  cell = cell_is a.code.now later.rows.lists.items later.cells.items k row asked d holds.all.0 has there

  moved : (after : Option Span) → ((rest : Option (ℕ × ℕ)) → found_or after rest ≡ option_or (span_by (starts ++ place ∷ []) (match_end d.matched place)) rest)
      → Going a (map at_of cell.after) (map (start_in (starts ++ place ∷ [])) cell.after) after (place + 1) (place_after place like.whole.unit)
  moved after told =
      let rows = later.rows.lists.items in
      let same : cell.ways ≡ begun = sym (row_ways rows row cell.ways cell.source) ∙ row_ways rows row begun (keeps_row cells.rows.lists.items rows row begun kept source) in
      let step = step_alike (instrs_in a) begun like.whole (seen_in asked) cell.after d.matched like.alike
      (subst (λ (ws : List ℕ). IsStep (instrs_in a) ws (seen_in asked) cell.after d.matched) same cell.step) in
      going_step a followed.steady followed.plain ways starts None after place like.whole cell.after d.matched within good like.seen step (λ none. cell.halts (like.ends none)) told going

  -- nothing is found in it
  quiet : d.matched ≡ None → Going a (map at_of cell.after) (map (start_in (starts ++ place ∷ [])) cell.after) None (place + 1) (place_after place like.whole.unit)
  quiet none = moved None (λ rest. ap (λ (o : Option ℕ). option_or (span_by (starts ++ place ∷ []) (match_end o place)) rest) (sym none))

  pub step_waits : (resume : ℕ) → d.matched ≡ None → resume ≡ place_after place (option_map unit_read asked.reading) → resume ≤ a.last + 1
      → IsWaiting a later (record { place = resume; rows = record { next = d.next; begun = d.begun } })
  step_waits resume none after ends = record {
    ways = map at_of cell.after;
    starts = map (start_in (starts ++ place ∷ [])) cell.after;
    followed = followed;
    kept = holds.bounded;
    all = holds.all;
    rows = record { waits = cell.leads; opens = cell.opens };
    going = going_on a _ _ None (place + 1) resume ends
        (going_same a _ _ _ _ None None (place + 1) _ resume refl refl refl (sym (after ∙ like.width)) (quiet none));
    within = ends;
  }

  pub step_forth : (resume : ℕ) → d.matched ≡ None → resume ≡ place_after place (option_map unit_read asked.reading) → place < resume
  step_forth resume none after = let g = quiet none in omega (arith, g.ahead, after ∙ like.width)

  -- a match is found in it
  pub step_match : is_some d.matched ≡ true → FindsSome a
  step_match some =
      let f = some_of d.matched some in
      some_match a _ _ _ _ _
      (moved (Some (record { start = slice_index (starts ++ place ∷ []) f.0; end = place }))
      (λ rest. ap (λ (o : Option ℕ). option_or (span_by (starts ++ place ∷ []) (match_end o place)) rest) (sym f.1)))
