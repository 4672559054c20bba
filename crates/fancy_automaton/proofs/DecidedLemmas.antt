-- Steps of a walk in which no way begins any more.
use Rattle.std.proofs.Common.{◌≡◌, ℕ, ◌<◌, ◌≤◌, ◌⊎◌, ◌++◌, ◌∷◌, [], inl, inr, Bool, true, List, Option, Some, None, refl, sym, ap, ap₂, ◌∙◌, subst, arith, length, map, replicate, option_map, get_or}
use Rattle.std.specs.Option.{option_or}
use Rattle.std.proofs.lemmas.List.{length-replicate}
use Rattle.fancy_code.specs.declared.attempt.Attempt.{Attempt}
use Rattle.fancy_code.specs.Attempt.{context_in, instrs_in, may_end_in}
use Rattle.fancy_meaning.specs.Context.{Context}
use Rattle.fancy_code.specs.Instructions.{Instruction}
use Rattle.fancy_meaning.specs.Reading.{unit_read}
use Rattle.fancy_alphabet.specs.Alike.{IsSeenLike}
use Rattle.fancy_alphabet.specs.Effects.{Seen}
use Rattle.fancy_alphabet.specs.Sights.{IsSeen, seen_in}
use Rattle.fancy_alphabet.specs.Units.{place_after}
use Rattle.fancy_alphabet.specs.declared.sight.Sight.{Sight}
use Rattle.fancy_states.specs.declared.cells.Cell.{Cell}
use Rattle.fancy_states.specs.declared.cells.Cells.{Cells}
use Rattle.fancy_states.specs.declared.way.Way.{Way}
use Rattle.fancy_states.specs.Cells.{HasCell, HasRow, HoldsFor, KeepsRows, ways_at}
use Rattle.fancy_automaton.specs.Decided.{Decided, Goal, later_end}
use Rattle.fancy_states.specs.Futures.{end_at}
use Rattle.fancy_states.specs.Search.{IsFollowed, Under}
use Rattle.fancy_states.specs.Steps.{IsStep, at_of, first_tagged_end, span_by, start_in}
use Rattle.fancy_states.specs.Ways.{Ends, match_end, tagged}
use Rattle.fancy_states.proofs.CellLemmas.{cell_is, row_later, row_of, row_ways, row_within}
use Rattle.fancy_automaton.proofs.GoingLemmas.{seen_reaches}
use Rattle.fancy_states.proofs.SearchLemmas.{under_step}
use Rattle.fancy_states.proofs.StepLemmas.{step_alike}

-- the same, as if it began there
abbrev pub retag : ℕ → Option (ℕ × ℕ) → Option (ℕ × ℕ)
retag s None = None
retag s (Some (t, e)) = Some (s, e)

-- where it ends
abbrev pub end_in : Option (ℕ × ℕ) → Option ℕ
end_in None = None
end_in (Some (t, e)) = Some e

pub retag_end : (s : ℕ) (o : Option (ℕ × ℕ)) → retag s o ≡ tagged s (end_in o)
retag_end s None = refl
retag_end s (Some p) = refl

pub retag_tagged : (s t : ℕ) (o : Option ℕ) → retag s (tagged t o) ≡ tagged s o
retag_tagged s t None = refl
retag_tagged s t (Some e) = refl

pub retag_or : (s : ℕ) (a b : Option (ℕ × ℕ)) → retag s (option_or a b) ≡ option_or (retag s a) (retag s b)
retag_or s None b = refl
retag_or s (Some p) b = refl

-- wherever the ways began, the first end is the same
pub retag_first : (s : ℕ) (ends : Ends) (ways starts : List ℕ) → length starts ≡ length ways
    → first_tagged_end ends ways (replicate (length ways) s) ≡ retag s (first_tagged_end ends ways starts)
retag_first s ends [] starts e = refl
retag_first s ends (q ∷ qs) [] e = absurd (omega (arith, e))
retag_first s ends (q ∷ qs) (t ∷ starts) e =
    ap₂ option_or (sym (retag_tagged s t (ends q))) (retag_first s ends qs starts (omega (arith, e))) ∙ sym (retag_or s (tagged t (ends q)) (first_tagged_end ends qs starts))

-- where what is looked for begins at one place, so do all ways
pub under_retagged : (good : ℕ → Bool) (x : Context) (limit : ℕ) (code : List Instruction) (deep start : ℕ) (goal : Option (ℕ × ℕ))
    (ways starts : List ℕ) (place s : ℕ) (rest : Option (ℕ × ℕ)) (o : Option ℕ) → goal ≡ tagged s o → Under good x limit code deep start goal ways starts place rest
    → Under good x limit code deep start goal ways (replicate (length ways) s) place (retag s rest)
under_retagged good x limit code deep start goal ways starts place s rest o tells u = record {
  same = length-replicate (length ways) s;
  known = u.known;
  answer = ap (λ (f : Option (ℕ × ℕ)). option_or f (retag s rest)) (retag_first s (end_at good x limit code deep place) ways starts u.same)
      ∙ sym (retag_or s (first_tagged_end (end_at good x limit code deep place) ways starts) rest)
      ∙ ap (retag s) (u.answer ∙ tells) ∙ retag_tagged s s o ∙ sym tells;
}

retag_found : (s : ℕ) (starts : List ℕ) (matched end : Option ℕ) (place : ℕ)
    → retag s (option_or (span_by starts (match_end matched place)) (tagged s end)) ≡ tagged s (later_end matched end place)
retag_found s starts None end place = retag_tagged s s end
retag_found s starts (Some f) end place = refl

-- a step
pub decided_step : (a : Attempt) (goal : Goal) (start : ℕ) → IsFollowed a
    → (ways : List ℕ) (end : Option ℕ) (place : ℕ) (s : Seen) (next : List Way) (matched : Option ℕ) → may_end_in a place ≡ true
    → IsSeen (context_in a) a.last place s → IsStep (instrs_in a) ways s next matched → Decided a goal start ways end place
    → Decided a goal start (map at_of next) (later_end matched end place) (place_after place s.unit)
decided_step a goal start followed ways end place s next matched fine seen step d =
    let starts = replicate (length ways) start in
    let after = place_after place s.unit in
    record {
      under = λ deep begun.
          (let t = d.tells deep begun in
          let u = under_step (may_end_in a) (context_in a) a.last (instrs_in a) deep a.code.now.start (goal deep) followed.plain ways starts place s next matched (tagged start end) fine seen step (d.under deep begun) in
          subst (λ (o : Option (ℕ × ℕ)). Under (may_end_in a) (context_in a) a.last (instrs_in a) deep a.code.now.start (goal deep) (map at_of next) (replicate (length (map at_of next)) start) after o)
          (retag_found start starts matched end place)
          (under_retagged (may_end_in a) (context_in a) a.last (instrs_in a) deep a.code.now.start (goal deep) (map at_of next) (map (start_in starts) next) after start
          (option_or (span_by starts (match_end matched place)) (tagged start end)) t.0 t.1 u));
      tells = d.tells;
    }

-- Where a step that is remembered leads.
pub record Advanced (a : Attempt) (cells later : Cells) (row place : ℕ) (asked : Sight) (d : Cell) : Type 0 where
  pub row_there : d.next < length later.rows.lists.items
  pub opens : HasRow later.rows.lists.items d.begun (ways_at later.rows.lists.items d.next ++ a.code.now.start ∷ [])
  pub forth : place < place_after place (option_map unit_read asked.reading)
  pub rests : ((may_end_in a (place_after place (option_map unit_read asked.reading)) ≡ true) × (place_after place (option_map unit_read asked.reading) ≤ a.last))
      ⊎ (ways_at later.rows.lists.items d.next ≡ [])
  pub decided : (goal : Goal) (start : ℕ) (end : Option ℕ) → Decided a goal start (ways_at cells.rows.lists.items row) end place
      → Decided a goal start (ways_at later.rows.lists.items d.next) (later_end d.matched end place) (place_after place (option_map unit_read asked.reading))

pub advanced : (a : Attempt) (cells later : Cells) (row place : ℕ) (asked : Sight) (k : ℕ) (d : Cell) → IsFollowed a → place ≤ a.last → may_end_in a place ≡ true
    → row < length cells.rows.lists.items → IsSeenLike a place asked → HoldsFor later a.code.now → KeepsRows cells.rows.lists.items later.rows.lists.items
    → HasCell later.cells.items k row asked → d ≡ get_or later.cells.items k d → Advanced a cells later row place asked d
advanced a cells later row place asked k d followed within good low like holds kept has there =
    let rows = later.rows.lists.items in
    let ways = ways_at cells.rows.lists.items row in
    let cell = cell_is a.code.now rows later.cells.items k row asked d holds.all.0 has there in
    let same : cell.ways ≡ ways = sym (row_ways rows row cell.ways cell.source) ∙ row_later cells.rows.lists.items rows row ways kept (row_of cells.rows.lists.items row low) in
    let step = step_alike (instrs_in a) ways like.whole (seen_in asked) cell.after d.matched like.alike
    (subst (λ (ws : List ℕ). IsStep (instrs_in a) ws (seen_in asked) cell.after d.matched) same cell.step) in
    let next : map at_of cell.after ≡ ways_at rows d.next = sym (row_ways rows d.next (map at_of cell.after) cell.leads) in
    let width : place_after place like.whole.unit ≡ place_after place (option_map unit_read asked.reading) = sym like.width in
    let r = seen_reaches a followed.steady place within good like.whole like.seen in
    record {
      row_there = row_within rows d.next _ cell.leads;
      opens = subst (λ (ws : List ℕ). HasRow rows d.begun (ws ++ a.code.now.start ∷ [])) next cell.opens;
      forth = omega (arith, r.0, width);
      rests = elim r.2 [
        | inl well ↦ inl (subst (λ (p : ℕ). (may_end_in a p ≡ true) × (p ≤ a.last)) width well)
        | inr none ↦ inr (sym next ∙ ap (map at_of) (cell.halts (like.ends none)))
      ];
      decided = λ goal start end is.
          subst (λ (ws : List ℕ). Decided a goal start ws (later_end d.matched end place) (place_after place (option_map unit_read asked.reading))) next
          (subst (λ (p : ℕ). Decided a goal start (map at_of cell.after) (later_end d.matched end place) p) width
          (decided_step a goal start followed ways end place like.whole cell.after d.matched good like.seen step is));
    }
