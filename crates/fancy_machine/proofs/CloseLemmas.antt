-- Items of a loop, where what follows them closes the innermost region: the branches at their places are never taken.
use Rattle.std.proofs.Common.{◌≡◌, ℕ, zero, suc, ◌+◌, ◌<◌, List, [], ◌∷◌, Option, Some, None, refl, sym, ap, ◌∙◌, subst, arith}
use Rattle.fancy_meaning.specs.Context.{Context}
use Rattle.fancy_code.specs.Instructions.{Instruction}
use Rattle.fancy_code.specs.Run.{Raw, Note, Stop, fetched, Go, before, run}
use Rattle.fancy_code.proofs.RunMore.{run_more}
use Rattle.fancy_splits.specs.declared.splits.ToldSplit.{ToldSplit}
use Rattle.fancy_splits.specs.Splits.{IsToldSplit, StopsAt}
use Rattle.fancy_trail.specs.Frames.{Spot, Frame, Saved}
use Rattle.fancy_trail.specs.Left.{after, finish, left}
use Rattle.fancy_trail.specs.Ways.{SavedOn, at_instr, past_one, past_items, IsEndedByAny}
use Rattle.fancy_machine.specs.Runs.{HasItems, IsStuck, Stands}
use Rattle.fancy_trail.proofs.Closing.{before_some, finish_known, finish_note}
use Rattle.fancy_trail.proofs.ItemLemmas.{one_at, one_limit, one_place}
use Rattle.fancy_trail.proofs.StopLemmas.{stop_through, stop_alone}
use Rattle.fancy_machine.proofs.PassLemmas.{Passed, passed_fetch, passed_then, at_split, at_byte, at_end, stuck_costs}

module _ (cx : Context) (code : List Instruction) (deep : ℕ) where
  abbrev go : ℕ → Go
  go l = run cx l code deep

  -- an item is read, in a group if there is one
  at_item : (l : ToldSplit) (x : Spot) (gs : List Frame) (w : List Raw) → IsToldSplit code cx.meaning x.at l → left go (at_instr l.first x) gs ≡ Some w → Stands l.items cx.haystack x.state.place
      → x.state.place < x.limit → (rest : List Raw) × (left go (past_one l.group x) gs ≡ Some rest) × Passed 0 0 w rest
  at_item l x gs w is known here fits = by l.group refl where
    by : (o : Option ℕ) → l.group ≡ o → (rest : List Raw) × (left go (past_one o x) gs ≡ Some rest) × Passed 0 0 w rest
    by None alone = at_byte cx code deep (at_instr l.first x) gs w here.0 x.at known (is.reads alone here.0 here.2 here.3) here.1 fits
    by (Some g) within =
        let y = at_instr l.first x in
        let rest = after go (past_one (Some g) x) in
        let k = finish_known go gs (after go y) w known in
        let one = run_more cx y.limit code deep y.at y.state y.starts k.0 k.1 in
        let two = run_more cx y.limit code (suc deep) y.at y.state y.starts k.0 one in
        let three = run_more cx y.limit code (suc (suc deep)) y.at y.state y.starts k.0 two in
        let reads : after go y ≡ before (Note fetched) (before (Note fetched) (before (Note fetched) rest)) =
        k.1 ∙ sym three ∙ is.reads_in g within here.0 here.2 here.3 cx y.limit deep y.state y.starts refl here.1 fits in
        let a = before_some (Note fetched) _ w (sym (ap (finish go gs) reads ∙ finish_note go gs fetched (before (Note fetched) (before (Note fetched) rest))) ∙ known) in
        let b = before_some (Note fetched) _ a.0 (sym (finish_note go gs fetched (before (Note fetched) rest)) ∙ a.1) in
        let c = before_some (Note fetched) _ b.0 (sym (finish_note go gs fetched rest) ∙ b.1) in (
          c.0,
          c.1,
          passed_then {m = 0} {r = 0} (passed_then {k = 0} {l = 0} (passed_fetch w a.0 a.2) (passed_fetch a.0 b.0 b.2) (omega arith) (omega arith)) (passed_fetch b.0 c.0 c.2) (omega arith) (omega arith),
        )

  -- a way that stops at once ends the innermost region, and no branch that was saved in it is left
  module _ (last : ℕ) (fs : List Frame) (ended : IsEndedByAny fs) (next : ℕ) (stops : StopsAt code last next) where
    pub at_stop : (z : Spot) (m : ℕ) (gs : List Frame) (w : List Raw) → z.at ≡ last → SavedOn m gs fs → left go z gs ≡ Some w → left go z fs ≡ Some w
    at_stop z m gs w at on known =
        let k = finish_known go gs (after go z) w known in
        let more = run_more cx z.limit code deep z.at z.state z.starts k.0 k.1 in
        let stop = subst (λ (q : ℕ). run cx z.limit code (suc deep) q z.state z.starts ≡ Some (Note fetched ∷ Stop next z.state z.starts ∷ [])) (sym at) (stops cx z.limit deep z.state z.starts) in
        let is : after go z ≡ before (Note fetched) (Some (Stop next z.state z.starts ∷ [])) = k.1 ∙ sym more ∙ stop in
        let b = before_some (Note fetched) _ w (sym (ap (finish go gs) is ∙ finish_note go gs fetched (Some (Stop next z.state z.starts ∷ []))) ∙ known) in
        let t = stop_through go next z.state z.starts b.0 m gs fs [] on b.1 in
        let alone = stop_alone go next z.state z.starts b.0 ended.0 ended.1 fs t.0 [] ended.2 (ended.3 z.state) t.1 in
        ap (finish go fs) is ∙ finish_note go fs fetched (Some (Stop next z.state z.starts ∷ [])) ∙ ap (before (Note fetched)) alone ∙ ap Some (sym b.2)

  module _ (l : ToldSplit) (fs : List Frame) (ended : IsEndedByAny fs) (next : ℕ) (stops : StopsAt code l.second next) where
    pub closed : (n m : ℕ) (x : Spot) (gs : List Frame) (w : List Raw) → IsToldSplit code cx.meaning x.at l → SavedOn m gs fs → left go x gs ≡ Some w → HasItems l cx.haystack x.state.place n
        → ((k : ℕ) → k < n → x.state.place + k < x.limit) → IsStuck l cx.haystack x.limit (x.state.place + n)
        → (rest : List Raw) × (left go (at_instr l.second (past_items l.group n x)) fs ≡ Some rest) × Passed (n + 1) 1 w rest
    closed zero m x gs w is on known items fits stuck =
        let met = at_split cx code deep x gs w l.first l.second known is.splits in
        let z = at_instr l.second x in
        let here : x.state.place + 0 ≡ x.state.place = omega arith in
        let end = at_end cx code deep 0 0 (at_instr l.first x) z gs met.0 met.1
        (stuck_costs cx code deep l x.at is (at_instr l.first x) refl (subst (IsStuck l cx.haystack x.limit) here stuck)) in
        (end.0, at_stop l.second fs ended next stops z m gs end.0 refl on end.1, passed_then met.2 end.2 (omega arith) (omega arith))
    closed (suc n) m x gs w is on known items fits stuck =
        let met = at_split cx code deep x gs w l.first l.second known is.splits in
        let branch = Saved (at_instr l.second x) in
        let first : x.state.place + 0 ≡ x.state.place = omega arith in
        let y = past_one l.group x in
        let read = at_item l x (branch ∷ gs) met.0 is met.1 (subst (Stands l.items cx.haystack) first (items 0 (omega arith))) (omega (arith, fits 0 (omega arith))) in
        let there : x.state.place + suc n ≡ y.state.place + n = omega (arith, one_place l.group x) in
        let more = closed n (suc m) y (branch ∷ gs) read.0 (subst (λ (q : ℕ). IsToldSplit code cx.meaning q l) (sym (one_at l.group x)) is) on read.1
        (λ k lt. let e : x.state.place + suc k ≡ y.state.place + k = omega (arith, one_place l.group x) in subst (Stands l.items cx.haystack) e (items (suc k) (omega (arith, lt))))
        (λ k lt. omega (arith, fits (suc k) (omega (arith, lt)), one_place l.group x, one_limit l.group x))
        (subst (λ (e : ℕ). IsStuck l cx.haystack e (y.state.place + n)) (sym (one_limit l.group x)) (subst (IsStuck l cx.haystack x.limit) there stuck)) in
        (more.0, more.1, passed_then (passed_then met.2 read.2 refl refl) more.2 (omega arith) (omega arith))
