-- What attempts cost that come into a run of items at whose end nothing goes on.
use Rattle.std.proofs.Common.{◌≡◌, ℕ, zero, suc, ◌+◌, ◌-◌, ◌<◌, ◌≤◌, ◌==◌, Bool, true, false, not, ◌||◌, nat_le, List, length, Option, None, Some, IfSome, refl, sym, ap, ◌∙◌, subst, arith, replicate, slice_index}
use Rattle.std.specs.Prelude.{slice_get}
use Rattle.std.proofs.Math.Logic.{∥∥₁_elim}
use Rattle.std.proofs.Props.{props}
use Rattle.fancy_tree.specs.declared.tree.Meaning.{Meaning}
use Rattle.fancy_input.specs.Places.{is_boundary, is_continuation}
use Rattle.fancy_code.specs.Code.{instrs_of}
use Rattle.fancy_code.specs.Compile.{IsCodeOf, depth}
use Rattle.fancy_meaning.specs.Context.{Context, State, moved_to}
use Rattle.fancy_meaning.specs.Events.{any, returns_in}
use Rattle.fancy_code.specs.Instructions.{Instruction}
use Rattle.fancy_code.specs.Run.{Note, choice_opened, before, join, act, instr_at, run}
use Rattle.fancy_meaning.specs.Search.{Query, answer_at, answer_from, context_of, initial, is_match_boundary, returns_at}
use Rattle.fancy_meaning.specs.Tried.{may_begin, tried}
use Rattle.fancy_meaning.proofs.AttemptLemmas.{found_later}
use Rattle.fancy_splits.specs.declared.front.Front.{Front}
use Rattle.fancy_splits.specs.declared.splits.ToldSplit.{ToldSplit}
use Rattle.fancy_splits.specs.Front.{IsFront}
use Rattle.fancy_prices.specs.Prices.{Costs, IsPriceAt}
use Rattle.fancy_splits.specs.Splits.{AreApart, IsToldSplit, IsNoted}
use Rattle.fancy_prices.proofs.BeginLemmas.{get_index}
use Rattle.fancy_prices.proofs.DyingWays.{costs_same, joined, opened, read}
use Rattle.fancy_prices.proofs.PriceLemmas.{costs_counted}
use Rattle.fancy_machine.specs.declared.attempt.Attempt.{Attempt}
use Rattle.fancy_machine.specs.Asked.{Serves}
use Rattle.fancy_machine.specs.Front.{GoesPast, IsDeadRun, MayPass, marks_ahead, returns_ahead, returns_over}
use Rattle.fancy_machine.specs.Runs.{Lacks, Stands}
use Rattle.fancy_machine.proofs.MachineSearch.{admits, gone_counts, missed_here, through_here}

-- a run without its first item
dead_rest : (l : ToldSplit) (h : List ℕ) (end p m : ℕ) → IsDeadRun l h end p (suc m) → IsDeadRun l h end (p + 1) m
dead_rest l h end p m dead =
    let past : p + suc m ≡ p + 1 + m = omega arith in
    record {
      items = λ k lt. subst (Stands l.items h) (omega arith) (dead.items (suc k) (omega (arith, lt)));
      inside = omega (arith, dead.inside);
      ends = subst (Lacks l.begins h) past dead.ends;
      stuck = subst (Lacks l.leaves h) past dead.stuck;
      apart = dead.apart;
      alone = dead.alone;
    }

module _ (code : List Instruction) (meaning : Meaning) (at : ℕ) (l : ToldSplit) (is : IsToldSplit code meaning at l) (apart : AreApart l.items l.leaves) (alone : l.group ≡ None) (x : Context) (limit : ℕ)
    (meant : x.meaning ≡ meaning) where
  -- a turn of the loop, where the item costs so much, and what follows dies
  turn : (n d : ℕ) (s : State) (v : List ℕ) → Costs n n (run x limit code d l.first s v) → Costs 0 0 (run x limit code d l.second s v) → Costs (n + 1) (n + 1) (run x limit code (suc d) at s v)
  turn n d s v item out =
      let o = run x limit code d l.first s v in
      let p = run x limit code d l.second s v in
      read (n + 1) (n + 1) (act x limit at (instr_at code at) (run x limit code d) (run x (length x.haystack) code d) s v)
      (subst (λ (i : Instruction). Costs (n + 1) (n + 1) (act x limit at i (run x limit code d) (run x (length x.haystack) code d) s v)) (sym is.splits)
      (costs_same any (suc (n + 0)) (n + suc 0) (n + 1) (n + 1) (before (Note choice_opened) (join o p)) (omega arith) (omega arith)
      (opened any (n + 0) (n + suc 0) (join o p) (joined any n n 0 0 o p item out))))

  -- where a byte stands that is none of these, the way dies
  dies_first : (d p : ℕ) (s : State) (v : List ℕ) → p ≡ s.place → Lacks l.begins x.haystack p → Costs 0 0 (run x limit code d l.first s v)
  dies_first d p s v e lacks =
      is.misses lacks.0 lacks.2 lacks.3 x limit d s v meant (record { here = subst (λ (k : ℕ). slice_get x.haystack k ≡ Some lacks.0) e lacks.1; before = tt })

  dies_out : (d p : ℕ) (s : State) (v : List ℕ) → p ≡ s.place → Lacks l.leaves x.haystack p → Costs 0 0 (run x limit code d l.second s v)
  dies_out d p s v e lacks =
      is.leaves lacks.0 lacks.2 lacks.3 x limit d s v meant (record { here = subst (λ (k : ℕ). slice_get x.haystack k ≡ Some lacks.0) e lacks.1; before = tt })

  -- so it does where an item stands
  dies_at_item : (d p : ℕ) (s : State) (v : List ℕ) → p ≡ s.place → Stands l.items x.haystack p → Costs 0 0 (run x limit code d l.second s v)
  dies_at_item d p s v e stands = dies_out d p s v e (stands.0, stands.1, stands.2, apart stands.0 stands.2 stands.3)

  -- the item that stands is read
  item_read : (n d p : ℕ) (s : State) (v : List ℕ) → p ≡ s.place → Stands l.items x.haystack p → s.place < limit → Costs n n (run x limit code d at (moved_to s (s.place + 1)) v)
      → Costs n n (run x limit code (suc d) l.first s v)
  item_read n d p s v e stands within costs =
      subst (Costs n n) (sym (is.reads alone stands.0 stands.2 stands.3 x limit d s v meant (subst (λ (k : ℕ). slice_get x.haystack k ≡ Some stands.0) e stands.1) within))
      (read n n (run x limit code d at (moved_to s (s.place + 1)) v) costs)

  -- the loop, before so many items
  pub run_costs : (n d end : ℕ) (s : State) (v : List ℕ) → IsDeadRun l x.haystack end s.place n → end ≤ limit → Costs (n + 1) (n + 1) (run x limit code d at s v)
  run_costs n zero end s v dead le = tt
  run_costs zero (suc d) end s v dead le =
      turn 0 d s v (dies_first d (s.place + 0) s v (omega arith) dead.ends) (dies_out d (s.place + 0) s v (omega arith) dead.stuck)
  run_costs (suc m) (suc zero) end s v dead le = turn (suc m) 0 s v tt tt
  run_costs (suc m) (suc (suc d)) end s v dead le =
      let here = dead.items 0 (omega arith) in
      let e : s.place + 0 ≡ s.place = omega arith in
      let one : m + 1 ≡ suc m = omega arith in
      let rest = run x limit code d at (moved_to s (s.place + 1)) v in
      let more = run_costs m d end (moved_to s (s.place + 1)) v (dead_rest l x.haystack end s.place m dead) le in
      turn (suc m) (suc d) s v (item_read (suc m) d (s.place + 0) s v e here (omega (arith, dead.inside, le)) (costs_same any (m + 1) (m + 1) (suc m) (suc m) rest one one more))
      (dies_at_item (suc d) (s.place + 0) s v e here)

-- An attempt at p finds nothing, and takes so many returns.
record FindsNoneAt (q : Query) (p r : ℕ) : Type 0 where
  none : answer_at q p ≡ None
  returns : returns_at q p ≡ r

-- no byte within a character is a boundary alone
or_last : (b c d : Bool) → d ≡ true → (b || (c || d)) ≡ true
or_last true c d e = refl
or_last false true d e = refl
or_last false false d e = e

boundary_at : (h : List ℕ) (p b : ℕ) → slice_get h p ≡ Some b → is_continuation b ≡ false → is_boundary h p ≡ true
boundary_at h p b stands none =
    or_last (p == 0) (nat_le (length h) p) (not (is_continuation (slice_index h p))) (ap not (ap is_continuation (get_index h p b stands) ∙ none))

module _ (q : Query) (a : Attempt) (serves : Serves a q) (some : ∥ IsCodeOf q.sought.pattern a.code.now ∥₁) (inside : q.request.range_end ≤ length q.haystack)
    (last : ℕ) (ends : last ≤ q.request.range_end) (f : Front) (fronted : IsFront a.splits.now a.code.now a.code.now.start f)
    (l : ToldSplit) (noted : IsNoted a.splits.now f.at l) (whole : a.options.now.on_boundaries ≡ true → f.whole ≡ true) where
  told : IsToldSplit (instrs_of a.code.now) a.code.now.meaning f.at l
  told = a.told _ _ _ noted.1 noted.2

  meant : q.sought.meaning ≡ a.code.now.meaning
  meant = sym (ap (λ (x : Context). x.meaning) serves.context)

  module _ (p m : ℕ) (dead : IsDeadRun l q.haystack last p (suc m)) where
    first : Stands l.items q.haystack p
    first = subst (Stands l.items q.haystack) (omega arith) (dead.items 0 (omega arith))

    -- what an attempt counts there
    price : IsCodeOf q.sought.pattern a.code.now → IsPriceAt q p (f.before.marks + (m + 1)) (f.before.returns + (m + 1))
    price of =
        costs_counted q a.code.now of meant inside p (f.before.marks + (m + 1)) (f.before.returns + (m + 1)) (omega (arith, dead.inside, ends))
        ((fronted l noted).0 first.0 first.2 first.3 (context_of q) q.request.range_end (depth (length q.haystack) q.sought.pattern + 1) (initial q p) (replicate a.code.now.groups 0)
        meant first.1 (omega (arith, dead.inside, ends)) (m + 1) (m + 1)
        (λ d w.
        run_costs (instrs_of a.code.now) a.code.now.meaning f.at l told (told.apart dead.apart) dead.alone (context_of q) q.request.range_end meant m d last (moved_to (initial q p) (p + 1)) w
        (dead_rest l q.haystack last p m dead) ends))

    may_be : (b : Bool) → a.options.now.on_boundaries ≡ b → is_match_boundary b q.haystack p ≡ true
    may_be false e = refl
    may_be true e = boundary_at q.haystack p first.0 first.1 ((fronted l noted).1 (whole e) first.0 first.2 first.3)

    may : admits q p ≡ true
    may = may_be q.sought.on_boundaries serves.on_boundaries

    finds_none : FindsNoneAt q p (f.before.returns + suc m)
    finds_none =
        record {
          none = ∥∥₁_elim some (hlevel props) (λ of. (price of).none);
          returns = ∥∥₁_elim some (hlevel props) (λ of. omega (arith, ap returns_in (through_here q p may), (price of).returns));
        }

  -- a search that tries each position
  module _ (seek : Bool) (off : seek ≡ false) where
    goes_over : (n p : ℕ) → IsDeadRun l q.haystack last p n → GoesPast q seek last p (p + n) (returns_over f.before.returns n)
    goes_over zero p dead =
        let e : p ≡ p + 0 = omega arith in
        record {
          passed = omega arith;
          within = omega (arith, dead.inside);
          answer = ap (λ (k : ℕ). answer_from q (last + 1 - k) k) e;
          count = omega (arith, ap (returns_ahead q seek last) e);
          marks = omega (arith, ap (marks_ahead q seek last) e);
        }
    goes_over (suc m) p dead =
        let here = finds_none p m dead in
        let one : last + 1 - p ≡ suc (last + 1 - (p + 1)) = omega (arith, dead.inside) in
        let missed = missed_here q p here.none in
        let tries : tried seek q p ≡ true = ap (λ (b : Bool). not b || may_begin q p) off in
        let counts = gone_counts q (tried seek q) (last + 1 - p) (last + 1 - (p + 1)) p one tries missed in
        let rest = goes_over m (p + 1) (dead_rest l q.haystack last p m dead) in
        let to : p + 1 + m ≡ p + suc m = omega arith in
        record {
          passed = omega arith;
          within = omega (arith, dead.inside);
          answer = found_later q (last + 1 - p) (last + 1 - (p + 1)) p one missed ∙ rest.answer ∙ ap (λ (k : ℕ). answer_from q (last + 1 - k) k) to;
          count = omega (arith, counts.0, here.returns, rest.count, ap (returns_ahead q seek last) to);
          marks = omega (arith, counts.1, rest.marks, ap (marks_ahead q seek last) to);
        }

-- items that may be passed over
pub passes_over : (q : Query) (a : Attempt) → Serves a q → ∥ IsCodeOf q.sought.pattern a.code.now ∥₁ → q.request.range_end ≤ length q.haystack → (last : ℕ) → last ≤ q.request.range_end
    → (front : Option Front) → IfSome front (IsFront a.splits.now a.code.now a.code.now.start) → (f : Front) → front ≡ Some f → (seek : Bool) → seek ≡ false
    → (n p : ℕ) → MayPass a f last p n → GoesPast q seek last p (p + n) (returns_over f.before.returns n)
passes_over q a serves some inside last ends front fronted f is seek off n p may =
    goes_over q a serves some inside last ends f (subst (λ (o : Option Front). IfSome o (IsFront a.splits.now a.code.now a.code.now.start)) is fronted)
    may.stands.0 may.stands.1 may.may seek off n p
    (subst (λ (h : List ℕ). IsDeadRun may.stands.0 h last p n) (ap (λ (x : Context). x.haystack) serves.context) may.stands.2)
