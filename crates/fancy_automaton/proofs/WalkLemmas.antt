-- The walk by the table where no way begins any more, and the search around it.
use Rattle.std.proofs.Common.{◌≡◌, ℕ, ◌<◌, ◌≤◌, ◌≢◌, ◌++◌, ◌∷◌, [], inl, inr, Bool, true, List, Option, Some, None, refl, sym, ap, ◌∙◌, subst, arith, length, replicate}
use Rattle.std.specs.Prelude.{slice_get, is_some, option_map, min, if◌then◌else◌}
use Rattle.std.specs.Option.{option_or}
use Rattle.std.proofs.lemmas.List.{length-replicate}
use Rattle.std.proofs.lemmas.Option.{get_or_from_slice_get}
use Rattle.fancy_code.specs.declared.attempt.Attempt.{Attempt}
use Rattle.fancy_code.specs.Attempt.{context_in, instrs_in, may_end_in}
use Rattle.fancy_alphabet.specs.Classes.{IsStart}
use Rattle.fancy_alphabet.specs.Units.{place_after}
use Rattle.fancy_meaning.specs.Reading.{unit_read}
use Rattle.fancy_alphabet.specs.declared.sight.Sight.{Sight}
use Rattle.fancy_states.specs.declared.cells.Cell.{Cell}
use Rattle.fancy_states.specs.declared.cells.Cells.{Cells}
use Rattle.fancy_automaton.specs.declared.sole.Sole.{Sole}
use Rattle.fancy_automaton.specs.declared.hop.Stand.{Stand}
use Rattle.fancy_states.specs.declared.transitions.Transition.{Transition}
use Rattle.fancy_states.specs.Cells.{HasRow, HoldsFor, ways_at}
use Rattle.fancy_automaton.specs.Decided.{Decided, Goal, IsDecided, IsPlaced, Opens, Rests, attempt_goal, later_end, search_goal}
use Rattle.fancy_states.specs.Futures.{end_at, start_end}
use Rattle.fancy_states.specs.Search.{BegunIn, Going, IsFollowed, Passes, ends_in}
use Rattle.fancy_automaton.specs.Sole.{IsSole, stood}
use Rattle.fancy_states.specs.Starts.{match_from}
use Rattle.fancy_states.specs.Steps.{first_tagged_end}
use Rattle.fancy_states.specs.Transitions.{IsMatching, IsQuiet, IsTransition}
use Rattle.fancy_states.specs.Ways.{tagged}
use Rattle.fancy_states.proofs.CellLemmas.{row_of, row_ways, row_within}
use Rattle.fancy_automaton.proofs.DecidedLemmas.{Advanced, advanced, end_in, retag, retag_end, retag_first, retag_or}
use Rattle.fancy_automaton.proofs.GoingLemmas.{passed_none}
use Rattle.fancy_states.proofs.SearchLemmas.{under_none}
use Rattle.fancy_automaton.specs.Told.{Sees}
use Rattle.fancy_automaton.proofs.SoleLemmas.{Tells, cell_there, some_of}

-- A step of the table was taken, after which the match ends at `later`.
pub record Walked (a : Attempt) (cells : Cells) (at : Stand) (past : ℕ) (t : Transition) (end later : Option ℕ) : Type 0 where
  pub row : t.next < length cells.rows.lists.items
  pub placed : IsPlaced a cells (stood past t)
  pub starts : IsStart (context_in a) past cells.table.classes t.next t.ahead
  pub opens : Opens a cells (stood past t)
  pub decided : (goal : Goal) (start : ℕ) → Decided a goal start (ways_at cells.rows.lists.items at.next) end at.place
      → Decided a goal start (ways_at cells.rows.lists.items t.next) later past

module _ (a : Attempt) (cells : Cells) (at : Stand) (past : ℕ) (asked : Sight) (t : Transition) (sees : Sees a cells.table.classes at.place past asked) (followed : IsFollowed a)
    (holds : HoldsFor cells a.code.now) (low : at.next < length cells.rows.lists.items) (placed : IsPlaced a cells at) where
  walked : (told : IsTransition cells.table.classes cells.cells.items at.next asked t) (d : Cell)
      → slice_get cells.cells.items t.cell ≡ Some d → (end later : Option ℕ) → later ≡ later_end d.matched end at.place → Walked a cells at past t end later
  walked told d there end later same =
      let rows = cells.rows.lists.items in
      let p = at.place in
      let like = sees.like in
      let moved = advanced a cells cells at.next p asked t.cell d followed placed.within placed.good low like holds (λ n v e. e)
      (d, there, told.from d there, told.on d there) (sym (get_or_from_slice_get cells.cells.items t.cell d d there)) in
      let next : d.next ≡ t.next = told.next d there in
      let width : place_after p (option_map unit_read asked.reading) ≡ past = like.width ∙ sees.width in
      record {
        row = subst (λ (n : ℕ). n < length rows) next moved.row_there;
        placed = record { begins = sees.begins t.begun t.opened told.opened; good = sees.good; within = sees.within };
        starts = sees.begins t.next t.ahead told.ahead;
        opens = subst (λ (n : ℕ). HasRow rows t.begun (ways_at rows n ++ a.code.now.start ∷ [])) next
            (subst (λ (n : ℕ). HasRow rows n (ways_at rows d.next ++ a.code.now.start ∷ [])) (told.begun d there) moved.opens);
        decided = λ goal start is.
            subst (λ (o : Option ℕ). Decided a goal start (ways_at rows t.next) o past) (sym same)
            (subst (λ (q : ℕ). Decided a goal start (ways_at rows t.next) (later_end d.matched end p) q) width
            (subst (λ (n : ℕ). Decided a goal start (ways_at rows n) (later_end d.matched end p) (place_after p (option_map unit_read asked.reading))) next (moved.decided goal start end is)));
      }

  -- no match ends there
  pub walked_quiet : Tells a cells at past asked t sees at.next IsQuiet → (end : Option ℕ) → Walked a cells at past t end end
  walked_quiet told end =
      let there = cell_there cells.cells.items t.cell told.0.stands in
      walked told.0 there.0 there.1 end end (sym (ap (λ (o : Option ℕ). later_end o end at.place) (told.1 there.0 there.1)))

  -- one does
  pub walked_found : Tells a cells at past asked t sees at.next IsMatching → (end : Option ℕ) → Walked a cells at past t end (Some at.place)
  walked_found told end =
      let there = cell_there cells.cells.items t.cell told.0.stands in
      let some = some_of there.0.matched (told.1 there.0 there.1) in
      walked told.0 there.0 there.1 end (Some at.place) (sym (ap (λ (o : Option ℕ). later_end o end at.place) some.1))

-- what was found, or a match before it, begins where all ways began
found_tells : (a : Attempt) (deep start : ℕ) (ways : List ℕ) (place e : ℕ) (goal : Option (ℕ × ℕ))
    → option_or (first_tagged_end (end_at (may_end_in a) (context_in a) a.last (instrs_in a) deep place) ways (replicate (length ways) start)) (Some (start, e)) ≡ goal
    → goal ≡ tagged start (end_in goal)
found_tells a deep start ways place e goal answer =
    let ends = end_at (may_end_in a) (context_in a) a.last (instrs_in a) deep place in
    let first = first_tagged_end ends ways (replicate (length ways) start) in
    sym answer ∙ ap (λ (f : Option (ℕ × ℕ)). option_or f (Some (start, e))) (retag_first start ends ways (replicate (length ways) start) (length-replicate (length ways) start))
    ∙ sym (retag_or start first (Some (start, e))) ∙ ap (retag start) answer ∙ retag_end start goal

found_decided : (a : Attempt) (start : ℕ) (ways : List ℕ) (end : Option ℕ) (place : ℕ) → is_some end ≡ true
    → Going a ways (replicate (length ways) start) (match_from start end) place place → Decided a (search_goal a) start ways end place
found_decided a start ways None place some g = absurd (cc)
found_decided a start ways (Some e) place some g = record {
  under = λ deep begun. g.under deep begun;
  tells = λ deep begun. (end_in (search_goal a deep), found_tells a deep start ways place e (search_goal a deep) (g.under deep begun).answer);
}

found_going : (a : Attempt) (start : ℕ) (ways : List ℕ) (end : Option ℕ) (place : ℕ) → is_some end ≡ true → may_end_in a place ≡ true → place ≤ a.last
    → Decided a (search_goal a) start ways end place → Going a ways (replicate (length ways) start) (match_from start end) place place
found_going a start ways None place some good within d = absurd (cc)
found_going a start ways (Some e) place some good within d = record {
  under = λ deep begun. d.under deep begun;
  even = length-replicate (length ways) start;
  ahead = omega arith;
  inside = λ k low high. absurd (omega (arith, low, high));
  rests = inl (good, within);
}

module _ (a : Attempt) (cells : Cells) (s : Sole) (is : IsSole a cells s) where
  same_ways : is.0 ≡ ways_at cells.rows.lists.items s.stand.next
  same_ways = sym (row_ways cells.rows.lists.items s.stand.next is.0 is.1.waits)

  pub sole_row : s.stand.next < length cells.rows.lists.items
  sole_row = row_within cells.rows.lists.items s.stand.next is.0 is.1.waits

  pub sole_holds : HoldsFor cells a.code.now
  sole_holds = record { bounded = is.1.kept; all = is.1.all }

  pub sole_placed : IsPlaced a cells s.stand
  sole_placed = record { begins = is.1.begins; good = is.1.good; within = is.1.within }

  pub sole_opens : Opens a cells s.stand
  sole_opens = subst (λ (ws : List ℕ). HasRow cells.rows.lists.items s.stand.begun (ws ++ a.code.now.start ∷ [])) same_ways is.1.opens

  -- after a match was found the place is decided where it begins
  pub sole_decided : is_some s.end ≡ true → IsDecided a cells (search_goal a) s
  sole_decided some =
      subst (λ (ws : List ℕ). Decided a (search_goal a) s.start ws s.end s.stand.place) same_ways (found_decided a s.start is.0 s.end s.stand.place some is.1.going)

-- and so the search stands where the walk ended
pub decided_sole : (a : Attempt) (cells : Cells) (s : Sole) → IsFollowed a → HoldsFor cells a.code.now → s.stand.next < length cells.rows.lists.items → IsPlaced a cells s.stand
    → Opens a cells s.stand → is_some s.end ≡ true → IsDecided a cells (search_goal a) s → IsSole a cells s
decided_sole a cells s followed holds low placed opens some d =
    let ways = ways_at cells.rows.lists.items s.stand.next in (
      ways,
      record {
        followed = followed;
        kept = holds.bounded;
        all = holds.all;
        waits = row_of cells.rows.lists.items s.stand.next low;
        opens = opens;
        going = found_going a s.start ways s.end s.stand.place some placed.good placed.within d;
        begins = placed.begins;
        good = placed.good;
        within = placed.within;
      },
    )

or_none : (o : Option (ℕ × ℕ)) → option_or o None ≡ o
or_none None = refl
or_none (Some p) = refl

-- the attempt at the first place, where the way begins
pub attempt_decided : (a : Attempt) (ways : List ℕ) → a.base ≤ a.last → may_end_in a a.base ≡ true → ways ≡ a.code.now.start ∷ []
    → Decided a (attempt_goal a) a.base ways None a.base
attempt_decided a ways within good one =
    subst (λ (ws : List ℕ). Decided a (attempt_goal a) a.base ws None a.base) (sym one) (record {
      under = λ deep begun. record {
        same = refl;
        known = (begun.known a.base within, tt);
        answer = or_none _
            ∙ ap (λ (b : Bool). option_or (tagged a.base (if b then (end_at (may_end_in a) (context_in a) a.last (instrs_in a) deep a.base a.code.now.start) else None)) None) (sym good);
      };
      tells = λ deep begun. (start_end (may_end_in a) (context_in a) a.last (instrs_in a) deep a.code.now.start a.base, or_none _);
    })

-- no match may begin there
pub attempt_none : (a : Attempt) (deep : ℕ) → a.base ≤ a.last → Passes a a.base → BegunIn a deep → None ≡ attempt_goal a deep
attempt_none a deep within passes begun =
    sym (ap (λ (o : Option ℕ). option_or (tagged a.base o) None) (passed_none a deep a.base begun within passes))

ends_from : (start : ℕ) (end : Option ℕ) → option_map ends_in (match_from start end) ≡ tagged start end
ends_from start None = refl
ends_from start (Some e) = refl

-- no way waits any more
pub decided_end : (a : Attempt) (goal : Goal) (start : ℕ) (ways : List ℕ) (end : Option ℕ) (place deep : ℕ) → ways ≡ [] → BegunIn a deep
    → Decided a goal start ways end place → option_map ends_in (match_from start end) ≡ goal deep
decided_end a goal start ways end place deep none begun d =
    ends_from start end
    ∙ under_none (may_end_in a) (context_in a) a.last (instrs_in a) deep a.code.now.start (goal deep) ways (replicate (length ways) start) place (tagged start end) none (d.under deep begun)

-- where some way waits, a match may begin and end
pub rests_placed : (a : Attempt) (cells : Cells) (s : Sole) → Rests a cells s → ways_at cells.rows.lists.items s.stand.next ≢ [] → IsPlaced a cells s.stand
rests_placed a cells s is some =
    elim is.placed [
      | inl here ↦ here
      | inr none ↦ absurd (some none)
    ]

-- where a step leads, the walk rests
pub step_rests : (a : Attempt) (cells later : Cells) (row place : ℕ) (asked : Sight) (d : Cell) (s : Sole) (near : ℕ) → Advanced a cells later row place asked d
    → s.stand.place ≡ place_after place (option_map unit_read asked.reading) → s.stand.next ≡ d.next → near ≡ min s.stand.place a.last
    → IsStart (context_in a) near later.table.classes s.stand.begun s.stand.opened → Rests a later s
step_rests a cells later row place asked d s near moved at next is begins =
    let rows = later.rows.lists.items in
    record {
      row = subst (λ (n : ℕ). n < length rows) (sym next) moved.row_there;
      placed = elim moved.rests [
        | inl well ↦ (
            let here = subst (λ (p : ℕ). (may_end_in a p ≡ true) × (p ≤ a.last)) (sym at) well in
            let within : s.stand.place ≤ a.last = here.1 in
            let same : near ≡ s.stand.place = omega (arith, is, within) in
            inl (record {
              begins = subst (λ (p : ℕ). IsStart (context_in a) p later.table.classes s.stand.begun s.stand.opened) same begins;
              good = here.0;
              within = within;
            }))
        | inr none ↦ inr (subst (λ (n : ℕ). ways_at rows n ≡ []) (sym next) none)
      ];
    }

-- the same ways wait in a row of another number
pub decided_moved : (a : Attempt) (goal : Goal) (start : ℕ) (ways ways' : List ℕ) (end : Option ℕ) (place place' : ℕ) → ways ≡ ways' → place ≡ place'
    → Decided a goal start ways end place → Decided a goal start ways' end place'
decided_moved a goal start ways ways' end place place' w p d =
    subst (λ (ws : List ℕ). Decided a goal start ws end place') w (subst (λ (q : ℕ). Decided a goal start ways end q) p d)
