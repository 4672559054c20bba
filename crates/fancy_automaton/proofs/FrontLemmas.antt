-- How far a search over remembered steps has come, step by step.
use Rattle.std.proofs.Common.{◌≡◌, ℕ, ◌+◌, ◌∷◌, ◌++◌, [], List, Option, Some, None, ◌≤◌, ◌≢◌, inl, inr, refl, sym, ap, ◌∙◌, subst, length, get_or, true, option_map, map}
use Rattle.std.specs.Option.{option_or}
use Rattle.fancy_input.specs.declared.span.Span.{Span}
use Rattle.fancy_code.specs.declared.attempt.Attempt.{Attempt}
use Rattle.fancy_code.specs.Attempt.{instrs_in, may_end_in}
use Rattle.fancy_meaning.specs.Reading.{unit_read}
use Rattle.fancy_states.specs.declared.cells.Cell.{Cell}
use Rattle.fancy_states.specs.declared.cells.Cells.{Cells}
use Rattle.fancy_automaton.specs.declared.front.Front.{Front}
use Rattle.fancy_states.specs.Cells.{KeepsRows, HasRow, HasRows, HasCell, HoldsFor, ways_at, row_if}
use Rattle.fancy_alphabet.specs.Alike.{IsSeenLike}
use Rattle.fancy_automaton.specs.Front.{IsFront, Stands, ways_of}
use Rattle.fancy_alphabet.specs.Units.{place_after}
use Rattle.fancy_states.specs.Search.{Going, begun_if, found_or}
use Rattle.fancy_states.specs.Starts.{found_after, starts_from}
use Rattle.fancy_states.specs.Steps.{IsStep, at_of, start_in, span_by}
use Rattle.fancy_alphabet.specs.Sights.{seen_in}
use Rattle.fancy_states.specs.Ways.{match_end}
use Rattle.fancy_alphabet.specs.declared.sight.Sight.{Sight}
use Rattle.fancy_states.proofs.CellLemmas.{row_ways, row_holds, row_later, row_here, cell_is, starts_by}
use Rattle.fancy_automaton.proofs.GoingLemmas.{going_step, going_same, going_on}
use Rattle.fancy_states.proofs.SearchLemmas.{no_items}
use Rattle.fancy_states.proofs.StepLemmas.{step_alike}

-- what a step finds is looked at before what was found, and before the rest
pub found_first : (found : Option Span) (starts : List ℕ) (matched : Option ℕ) (place : ℕ) (rest : Option (ℕ × ℕ))
    → found_or (found_after found starts matched place) rest ≡ option_or (span_by starts (match_end matched place)) (found_or found rest)
found_first found starts None place rest = refl
found_first found starts (Some f) place rest = refl

-- the row of a place is one that is remembered
pub front_row : (a : Attempt) (cells : Cells) (f : Front) (place resume row : ℕ) → IsFront a cells f place resume → row ≡ row_if f.found f.next f.begun
    → HasRow cells.rows.lists.items row (begun_if f.found (ways_of cells f) a.code.now.start)
front_row a cells f place resume row is e =
    subst (λ (r : ℕ). HasRow cells.rows.lists.items r (begun_if f.found (ways_of cells f) a.code.now.start)) (sym e)
    (row_here cells.rows.lists.items f.found f.next f.begun a.code.now.start (ways_of cells f) is.waits is.opens)

-- a step that is remembered, or computed, from the row of a place on what is read there
module _ (a : Attempt) (cells later : Cells) (f g : Front) (place row : ℕ) (asked : Sight) (k : ℕ) (d : Cell) (resume : ℕ)
    (within : place ≤ a.last) (good : may_end_in a place ≡ true) (is : IsFront a cells f place place) (rowed : row ≡ row_if f.found f.next f.begun)
    (like : IsSeenLike a place asked) (holds : HoldsFor later a.code.now)
    (kept : KeepsRows cells.rows.lists.items later.rows.lists.items)
    (has : HasCell later.cells.items k row asked) (there : d ≡ get_or later.cells.items k d)
    (next : g.next ≡ d.next) (begins : g.begun ≡ d.begun)
    (starts : g.starts.waiting.items ≡ starts_from (begun_if f.found f.starts.waiting.items place) d.came.items)
    (found : g.found ≡ found_after f.found (begun_if f.found f.starts.waiting.items place) d.matched place)
    (after : resume ≡ place_after place (option_map unit_read asked.reading)) where
  pub front_advanced : IsFront a later g (place + 1) resume
  front_advanced =
      let rows = later.rows.lists.items in
      let cell = cell_is a.code.now rows later.cells.items k row asked d holds.all.0 has there in
      let begun : List ℕ = begun_if f.found f.starts.waiting.items place in
      let ways : List ℕ = begun_if f.found (ways_of cells f) a.code.now.start in
      let same : cell.ways ≡ ways = sym (row_ways rows row cell.ways cell.source) ∙ row_later cells.rows.lists.items rows row ways kept (front_row a cells f place place row is rowed) in
      let step = step_alike (instrs_in a) ways like.whole (seen_in asked) cell.after d.matched like.alike
      (subst (λ (ws : List ℕ). IsStep (instrs_in a) ws (seen_in asked) cell.after d.matched) same cell.step) in
      let moved = going_step a is.followed.steady is.followed.plain (ways_of cells f) f.starts.waiting.items f.found (found_after f.found begun d.matched place) place like.whole cell.after d.matched within good like.seen step
      (λ none. cell.halts (like.ends none)) (found_first f.found begun d.matched place) is.going in
      let leads : HasRow rows g.next (map at_of cell.after) = subst (λ (r : ℕ). HasRow rows r (map at_of cell.after)) (sym next) cell.leads in
      let to : ways_at rows g.next ≡ map at_of cell.after = row_ways rows g.next (map at_of cell.after) leads in
      let began : g.starts.waiting.items ≡ map (start_in begun) cell.after = starts ∙ ap (starts_from begun) cell.comes ∙ starts_by begun cell.after in
      record {
        followed = is.followed;
        kept = holds.bounded;
        all = holds.all;
        waits = row_holds rows g.next (map at_of cell.after) leads;
        opens = subst (λ (ws : List ℕ). HasRow rows g.begun (ws ++ a.code.now.start ∷ [])) (sym to)
            (subst (λ (r : ℕ). HasRow rows r (map at_of cell.after ++ a.code.now.start ∷ [])) (sym begins) cell.opens);
        going = going_same a _ _ _ _ _ _ (place + 1) _ resume (sym to) (sym began) (sym found) (sym (after ∙ like.width)) moved;
      }

module _ (a : Attempt) (cells : Cells) (f : Front) where
  -- the same, where more is known of where the ways wait
  front_by : (place place' resume resume' : ℕ) → IsFront a cells f place resume → Going a (ways_of cells f) f.starts.waiting.items f.found place' resume'
      → IsFront a cells f place' resume'
  front_by place place' resume resume' is going = record { followed = is.followed; kept = is.kept; all = is.all; waits = is.waits; opens = is.opens; going = going }

  -- on to the place where the ways wait
  pub front_on : (place resume : ℕ) → resume ≤ a.last + 1 → IsFront a cells f place resume → IsFront a cells f resume resume
  front_on place resume within is = front_by place resume resume resume is (going_on a _ _ _ place resume within is.going)

-- it stands at the same place
pub still_stands : (a : Attempt) (cells : Cells) (f : Front) (place next : ℕ) → next ≡ place → may_end_in a place ≡ true → place ≤ a.last → IsFront a cells f next next → Stands a cells f place
still_stands a cells f place next same good within is = record {
  front = subst (λ (p : ℕ). IsFront a cells f p p) same is;
  good = good;
  within = within;
}

-- where a way waits, a match may begin and end
pub front_waits : (a : Attempt) (cells : Cells) (f : Front) (place : ℕ) → IsFront a cells f place place → ways_of cells f ≢ [] → (may_end_in a place ≡ true) × (place ≤ a.last)
front_waits a cells f place is some =
    elim is.going.rests [
      | inl here ↦ here
      | inr none ↦ absurd (some (no_items (ways_of cells f) (sym is.going.even ∙ ap length none)))
    ]

-- the same ways wait in rows of their own
pub front_restarted : (a : Attempt) (cells later : Cells) (f g : Front) (place resume : ℕ) → HoldsFor later a.code.now
    → HasRows later.rows.lists.items g.next g.begun (ways_of cells f) a.code.now.start
    → g.starts.waiting.items ≡ f.starts.waiting.items → g.found ≡ f.found → IsFront a cells f place resume → IsFront a later g place resume
front_restarted a cells later f g place resume holds rows starts found is =
    let ways : ways_of later g ≡ ways_of cells f = row_ways later.rows.lists.items g.next (ways_of cells f) rows.waits in
    record {
      followed = is.followed;
      kept = holds.bounded;
      all = holds.all;
      waits = row_holds later.rows.lists.items g.next (ways_of cells f) rows.waits;
      opens = subst (λ (ws : List ℕ). HasRow later.rows.lists.items g.begun (ws ++ a.code.now.start ∷ [])) (sym ways) rows.opens;
      going = going_same a _ _ _ _ _ _ place resume resume (sym ways) (sym starts) (sym found) refl is.going;
    }
