-- A cell is true of the code in both ways to say it.
use Rattle.std.proofs.Common.{◌≡◌, ℕ, zero, suc, ◌<◌, ◌-◌, Bool, true, None, Some, List, [], ◌∷◌, ◌++◌, Option, refl, sym, ap, ap₂, ◌∙◌, subst, arith, length, map, get_or, All}
use Rattle.std.specs.Global.{Vec}
use Rattle.fancy_code.specs.declared.code.Code.{Code}
use Rattle.fancy_code.specs.Code.{instrs_of}
use Rattle.fancy_code.specs.Instructions.{Instruction}
use Rattle.fancy_states.specs.declared.way.Way.{Way}
use Rattle.fancy_states.specs.declared.cells.Cell.{Cell}
use Rattle.fancy_states.specs.declared.cells.Cells.{Cells}
use Rattle.fancy_states.specs.Ways.{AllKnown}
use Rattle.fancy_alphabet.specs.Effects.{Seen}
use Rattle.fancy_alphabet.specs.Sights.{seen_in}
use Rattle.fancy_states.specs.Steps.{IsStep, waiting, at_of, from_of}
use Rattle.std.specs.Prelude.{◌&&◌, IfSome, nat_eq, nat_lt}
use Rattle.std.proofs.lemmas.Bool.{and_parts}
use Rattle.std.proofs.lemmas.Bool.Decides.{nat_tests}
use Rattle.fancy_states.specs.declared.origin.Origin.{Origin}
use Rattle.fancy_states.specs.declared.origin.Origin.TheVariants.{Earlier, Last, Mixed}
use Rattle.fancy_states.specs.Origins.{ComeFrom, come_from, match_passes}
use Rattle.fancy_states.specs.Cells.{HasRow, IsCellOf, IsFor, ways_at}
use Rattle.fancy_states.specs.Remembered.{ways_from, IsKnownAt, IsStepEach, IsRemembered, Remembers}
use Rattle.fancy_states.proofs.CellLemmas.{row_ways, row_within}

all_each : (known : ℕ → Bool) (ws : List Way) → AllKnown known ws → (k : ℕ) (d : Way) → k < length ws → IsKnownAt known (get_or ws k d)
all_each known [] all k d lt = absurd (omega arith)
all_each known (w ∷ ws) all zero d lt = all.0
all_each known (w ∷ ws) all (suc k) d lt = all_each known ws all.1 k d (omega arith)

each_all : (known : ℕ → Bool) (ws : List Way) → All (IsKnownAt known) ws → AllKnown known ws
each_all known [] each = tt
each_all known (w ∷ ws) each = (each zero w (omega arith), each_all known ws (λ k d lt. each (suc k) d (omega arith)))

step_each : (code : List Instruction) (ways : List ℕ) (u : Seen) (next : List Way) (matched : Option ℕ)
    → IsStep code ways u next matched → IsStepEach code ways u next matched
step_each code ways u next matched is here ends later known beyond rank solves each =
    let told = is here ends later known beyond rank solves (each_all known (waiting 0 ways) each) in
    (all_each beyond next told.0, told.1)

each_step : (code : List Instruction) (ways : List ℕ) (u : Seen) (next : List Way) (matched : Option ℕ)
    → IsStepEach code ways u next matched → IsStep code ways u next matched
each_step code ways u next matched is here ends later known beyond rank solves all =
    let told = is here ends later known beyond rank solves (all_each known (waiting 0 ways) all) in
    (each_all beyond next told.0, told.1)

row_at : (rows : List (Vec ℕ)) (r : ℕ) → r < length rows → HasRow rows r (ways_at rows r)
row_at [] r lt = absurd (omega arith)
row_at (v ∷ rows) zero lt = (v, refl, refl)
row_at (v ∷ rows) (suc r) lt = row_at rows r (omega arith)

from_after : (after : List Way) → ways_from (map at_of after) (map from_of after) ≡ after
from_after [] = refl
from_after (w ∷ ws) = ap (λ (xs : List Way). w ∷ xs) (from_after ws)

same_lengths : (after : List Way) → length (map from_of after) ≡ length (map at_of after)
same_lengths [] = refl
same_lengths (w ∷ ws) = ap suc (same_lengths ws)

ats_of : (qs came : List ℕ) → length came ≡ length qs → map at_of (ways_from qs came) ≡ qs
ats_of [] came e = refl
ats_of (q ∷ qs) [] e = absurd (omega arith)
ats_of (q ∷ qs) (f ∷ came) e = ap (λ (xs : List ℕ). q ∷ xs) (ats_of qs came (omega arith))

froms_of : (qs came : List ℕ) → length came ≡ length qs → map from_of (ways_from qs came) ≡ came
froms_of [] [] e = refl
froms_of [] (f ∷ came) e = absurd (omega arith)
froms_of (q ∷ qs) [] e = absurd (omega arith)
froms_of (q ∷ qs) (f ∷ came) e = ap (λ (xs : List ℕ). f ∷ xs) (froms_of qs came (omega arith))

both : (a b : Bool) → a ≡ true → b ≡ true → (a && b) ≡ true
both a b e f = ap₂ (λ (x y : Bool). x && y) e f

match_below : (o : Option ℕ) (n : ℕ) → IfSome o (λ f. f < n) → match_passes (λ f. nat_lt f n) o ≡ true
match_below None n is = refl
match_below (Some f) n is = grind (arith, nat_tests)

below_match : (o : Option ℕ) (n : ℕ) → match_passes (λ f. nat_lt f n) o ≡ true → IfSome o (λ f. f < n)
below_match None n is = tt
below_match (Some f) n is = grind (arith, nat_tests)

match_same : (o : Option ℕ) (n : ℕ) → IfSome o (λ f. f ≡ n) → match_passes (λ f. nat_eq f n) o ≡ true
match_same None n is = refl
match_same (Some f) n is = grind (arith, nat_tests)

same_match : (o : Option ℕ) (n : ℕ) → match_passes (λ f. nat_eq f n) o ≡ true → IfSome o (λ f. f ≡ n)
same_match None n is = tt
same_match (Some f) n is = grind (arith, nat_tests)

positive : (n : ℕ) → 0 < n → nat_lt 0 n ≡ true
positive n lt = grind (arith, nat_tests)

passes : (o : Origin) (ways : ℕ) (came : List ℕ) (matched : Option ℕ) → ComeFrom o ways came matched → come_from o ways came matched ≡ true
passes Earlier ways came matched is = both _ _ is.0 (match_below matched (ways - 1) is.1)
passes Last ways came matched is = both _ _ (positive ways is.0) (both _ _ is.1 (match_same matched (ways - 1) is.2))
passes Mixed ways came matched is = refl

above_zero : (n : ℕ) → nat_lt 0 n ≡ true → 0 < n
above_zero n e = grind (arith, nat_tests)

passed : (o : Origin) (ways : ℕ) (came : List ℕ) (matched : Option ℕ) → come_from o ways came matched ≡ true → ComeFrom o ways came matched
passed Earlier ways came matched is = let parts = and_parts _ _ is in (parts.0, below_match matched (ways - 1) parts.1)
passed Last ways came matched is =
    let parts = and_parts _ _ is in
    let others = and_parts _ _ parts.1 in
    (above_zero ways parts.0, others.0, same_match matched (ways - 1) others.1)
passed Mixed ways came matched is = tt

remembered : (code : Code) (rows : List (Vec ℕ)) (c : Cell) → IsCellOf code rows c → IsRemembered code rows c
remembered code rows c is =
    let u : Seen = seen_in c.sight in
    let source : ways_at rows c.row ≡ is.ways = row_ways rows c.row is.ways is.source in
    let leads : ways_at rows c.next ≡ map at_of is.after = row_ways rows c.next (map at_of is.after) is.leads in
    let after : ways_from (ways_at rows c.next) c.came.items ≡ is.after = ap₂ ways_from leads is.comes ∙ from_after is.after in
    record {
      source = row_within rows c.row is.ways is.source;
      leads = row_within rows c.next (map at_of is.after) is.leads;
      opened = row_within rows c.begun (map at_of is.after ++ code.start ∷ []) is.opens;
      even = ap length is.comes ∙ same_lengths is.after ∙ ap length (sym leads);
      comes_from = passes c.origin (length (ways_at rows c.row)) c.came.items c.matched
          (subst (λ (ws : List ℕ). ComeFrom c.origin (length ws) c.came.items c.matched) (sym source) is.comes_from);
      opens = row_ways rows c.begun (map at_of is.after ++ code.start ∷ []) is.opens ∙ ap (λ (xs : List ℕ). xs ++ code.start ∷ []) (sym leads);
      step = subst (λ (ws : List ℕ). IsStepEach (instrs_of code) ws u (ways_from (ways_at rows c.next) c.came.items) c.matched) (sym source)
          (subst (λ (n : List Way). IsStepEach (instrs_of code) is.ways u n c.matched) (sym after) (step_each (instrs_of code) is.ways u is.after c.matched is.step));
      halts = λ e. leads ∙ ap (map at_of) (is.halts e);
    }

recalled : (code : Code) (rows : List (Vec ℕ)) (c : Cell) → IsRemembered code rows c → IsCellOf code rows c
recalled code rows c is =
    let ats : map at_of (ways_from (ways_at rows c.next) c.came.items) ≡ ways_at rows c.next = ats_of (ways_at rows c.next) c.came.items is.even in
    record {
      ways = ways_at rows c.row;
      after = ways_from (ways_at rows c.next) c.came.items;
      source = row_at rows c.row is.source;
      leads = subst (λ (ws : List ℕ). HasRow rows c.next ws) (sym ats) (row_at rows c.next is.leads);
      opens = subst (λ (ws : List ℕ). HasRow rows c.begun ws) (is.opens ∙ ap (λ (xs : List ℕ). xs ++ code.start ∷ []) (sym ats)) (row_at rows c.begun is.opened);
      comes = sym (froms_of (ways_at rows c.next) c.came.items is.even);
      comes_from = passed c.origin (length (ways_at rows c.row)) c.came.items c.matched is.comes_from;
      step = each_step (instrs_of code) (ways_at rows c.row) (seen_in c.sight) (ways_from (ways_at rows c.next) c.came.items) c.matched is.step;
      halts = λ e. ap (λ (ws : List ℕ). ways_from ws c.came.items) (is.halts e);
    }

pub remembers : (a : Cells) (code : Code) → IsFor a code → Remembers a code
remembers a code all = (λ k d lt. remembered code a.rows.lists.items (get_or a.cells.items k d) (all.0 k d lt), all.1)

pub recalls : (a : Cells) (code : Code) → Remembers a code → IsFor a code
recalls a code all = (λ k d lt. recalled code a.rows.lists.items (get_or a.cells.items k d) (all.0 k d lt), all.1)
