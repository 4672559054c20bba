-- Steps of a search whose ways that wait all began at one place.
use Rattle.std.proofs.Common.{◌≡◌, ◌&&◌, ℕ, zero, suc, ◌+◌, ◌-◌, ◌<◌, ◌≤◌, ◌≢◌, ◌⊎◌, inl, inr, ◌++◌, ◌∷◌, [], Bool, true, List, Option, Some, None, refl, sym, ap, ap₂, ◌∙◌, subst, arith, length, map, replicate, length-append}
use Rattle.std.specs.Prelude.{slice_get, slice_index, nat_eq, nat_lt, is_some, IfSome}
use Rattle.std.specs.List.{list_all}
use Rattle.std.specs.Option.{option_or}
use Rattle.std.specs.Global.{Vec}
use Rattle.std.proofs.lemmas.Bool.{and_parts}
use Rattle.std.proofs.lemmas.Bool.Decides.{nat_tests}
use Rattle.std.proofs.lemmas.List.{length-replicate}
use Rattle.std.proofs.lemmas.Option.{get_or_from_slice_get, slice_get_cases}
use Rattle.fancy_input.specs.declared.span.Span.{Span}
use Rattle.fancy_code.specs.declared.attempt.Attempt.{Attempt}
use Rattle.fancy_code.specs.Attempt.{context_in, instrs_in, may_end_in}
use Rattle.fancy_alphabet.specs.Classes.{IsStart}
use Rattle.fancy_alphabet.specs.Sights.{seen_in}
use Rattle.fancy_alphabet.specs.declared.sight.Sight.{Sight}
use Rattle.fancy_states.specs.declared.cells.Cell.{Cell}
use Rattle.fancy_states.specs.declared.cells.Cells.{Cells}
use Rattle.fancy_automaton.specs.declared.hop.Stand.{Stand}
use Rattle.fancy_states.specs.declared.origin.Origin.{Origin}
use Rattle.fancy_states.specs.declared.origin.Origin.TheVariants.{Earlier, Last, Mixed}
use Rattle.fancy_states.specs.declared.transitions.Kind.{Kind}
use Rattle.fancy_states.specs.declared.transitions.Kind.TheVariants.{Quiet}
use Rattle.fancy_states.specs.declared.transitions.Kind.TheVariants as kinds
use Rattle.fancy_states.specs.declared.transitions.Transition.{Transition}
use Rattle.fancy_states.specs.declared.way.Way.{Way}
use Rattle.fancy_alphabet.specs.declared.classes.Classes.{Classes}
use Rattle.fancy_states.specs.Cells.{HasRow, HasRows, IsCell, IsIdle, KeepsHolding, ways_at, row_if}
use Rattle.fancy_automaton.specs.Front.{IsFront, Stands, ways_of}
use Rattle.fancy_states.specs.Origins.{ComeFrom}
use Rattle.fancy_states.specs.Search.{Going, begun_if, found_or}
use Rattle.fancy_automaton.specs.Sole.{ComeFromFirst, IsAmid, IsAt, IsLed, IsLedOn, IsSole, KeepsFirst, StartsWith, Waits, stood}
use Rattle.fancy_states.specs.Starts.{found_after, match_from, starts_from}
use Rattle.fancy_automaton.specs.declared.amid.Amid.{Amid}
use Rattle.fancy_automaton.specs.declared.sole.Sole.{Sole}
use Rattle.fancy_automaton.specs.declared.front.Front.{Front}
use Rattle.fancy_automaton.proofs.FrontLemmas.{found_first}
use Rattle.fancy_states.specs.Steps.{IsStep, at_of, from_of, span_by, start_in}
use Rattle.fancy_states.specs.Transitions.{IsEntry, IsMatching, IsOfKind, IsQuiet, IsTransition}
use Rattle.fancy_states.specs.Ways.{match_end}
use Rattle.fancy_states.proofs.CellLemmas.{cell_is, row_here, row_holds, row_ways, starts_by}
use Rattle.fancy_automaton.proofs.GoingLemmas.{going_on, going_same, going_step}
use Rattle.fancy_automaton.specs.Told.{Sees}
use Rattle.fancy_states.proofs.SearchLemmas.{no_items}
use Rattle.fancy_states.proofs.StepLemmas.{step_alike}

-- The ways after a step, and where the search stands then.
pub record Stepped (a : Attempt) (cells : Cells) (at : Stand) (ways starts : List ℕ) (found after : Option Span) (past : ℕ) (t : Transition) (d : Cell) : Type 0 where
  pub next : List Way
  pub came : d.came.items ≡ map from_of next
  pub come : ComeFrom t.origin (length (begun_if found ways a.code.now.start)) (map from_of next) d.matched
  pub stands : IsAt a cells (stood past t) (map at_of next) (map (start_in (begun_if found starts at.place)) next) after

-- a step that the table tells
module _ (a : Attempt) (cells : Cells) (at : Stand) (ways starts : List ℕ) (found : Option Span)
    (row past : ℕ) (asked : Sight) (t : Transition) (d : Cell) (sees : Sees a cells.table.classes at.place past asked)
    (is : IsAt a cells at ways starts found) (rowed : row ≡ row_if found at.next at.begun)
    (told : IsTransition cells.table.classes cells.cells.items row asked t)
    (there : slice_get cells.cells.items t.cell ≡ Some d) where
  abbrev begun : List ℕ
  begun = begun_if found ways a.code.now.start

  pub own : IsCell a.code.now cells.rows.lists.items row asked d.next d.begun d.came.items d.matched d.origin
  own =
      cell_is a.code.now cells.rows.lists.items cells.cells.items t.cell row asked d is.all.0 (d, there, told.from d there, told.on d there)
      (sym (get_or_from_slice_get cells.cells.items t.cell d d there))

  pub same : own.ways ≡ begun
  same =
      let rows = cells.rows.lists.items in
      let source : HasRow rows row begun = subst (λ (r : ℕ). HasRow rows r begun) (sym rowed) (row_here rows found at.next at.begun a.code.now.start ways is.waits is.opens) in
      sym (row_ways rows row own.ways own.source) ∙ row_ways rows row begun source

  pub comes : ComeFrom t.origin (length begun) (map from_of own.after) d.matched
  comes =
      subst (λ (o : Origin). ComeFrom o (length begun) (map from_of own.after) d.matched) (told.origin d there)
      (subst (λ (xs : List ℕ). ComeFrom d.origin (length begun) xs d.matched) own.comes
      (subst (λ (ws : List ℕ). ComeFrom d.origin (length ws) d.came.items d.matched) same own.comes_from))

  pub stepped : (after : Option Span) → ((rest : Option (ℕ × ℕ)) → found_or after rest ≡ option_or (span_by (begun_if found starts at.place) (match_end d.matched at.place)) (found_or found rest))
      → Stepped a cells at ways starts found after past t d
  stepped after hits =
      let rows = cells.rows.lists.items in
      let p = at.place in
      let like = sees.like in
      let step = step_alike (instrs_in a) begun like.whole (seen_in asked) own.after d.matched like.alike
      (subst (λ (ws : List ℕ). IsStep (instrs_in a) ws (seen_in asked) own.after d.matched) same own.step) in
      let moved = going_step a is.followed.steady is.followed.plain ways starts found after p like.whole own.after d.matched is.within is.good like.seen step (λ none. own.halts (like.ends none)) hits is.going in
      record {
        next = own.after;
        came = own.comes;
        come = comes;
        stands = record {
          followed = is.followed;
          kept = is.kept;
          all = is.all;
          waits = subst (λ (n : ℕ). HasRow rows n (map at_of own.after)) (told.next d there) own.leads;
          opens = subst (λ (n : ℕ). HasRow rows n (map at_of own.after ++ a.code.now.start ∷ [])) (told.begun d there) own.opens;
          going = going_on a _ _ after (p + 1) past (omega (arith, sees.within))
              (going_same a _ _ _ _ after after (p + 1) _ past refl refl refl sees.width moved);
          begins = sees.begins t.begun t.opened told.opened;
          good = sees.good;
          within = sees.within;
        };
      }

  pub quiet : d.matched ≡ None → Stepped a cells at ways starts found found past t d
  quiet none = stepped found (λ rest. ap (λ (o : Option ℕ). option_or (span_by (begun_if found starts at.place) (match_end o at.place)) (found_or found rest)) (sym none))

  pub matching : (f s : ℕ) → d.matched ≡ Some f → slice_index (begun_if found starts at.place) f ≡ s → Stepped a cells at ways starts found (Some (record { start = s; end = at.place })) past t d
  matching f s some began =
      stepped (Some (record { start = s; end = at.place })) (λ rest. ap (λ (x : ℕ). Some (x, at.place)) (sym began)
      ∙ ap (λ (o : Option ℕ). option_or (span_by (begun_if found starts at.place) (match_end o at.place)) (found_or found rest)) (sym some))

below : (f n : ℕ) → nat_lt f n ≡ true → f < n
below f n lt = grind (arith, nat_tests)

equal : (f n : ℕ) → nat_eq f n ≡ true → f ≡ n
equal f n e = grind (arith, nat_tests)

is_below : (f n : ℕ) → f < n → nat_lt f n ≡ true
is_below f n lt = grind (arith, nat_tests)

-- numbers of which the first are below one are all, where these are all
pub all_below : (xs : List ℕ) (k n : ℕ) → n ≡ length xs → ((i : ℕ) → i < n → slice_index xs i < k) → list_all (λ f. nat_lt f k) xs ≡ true
all_below [] k n all low = refl
all_below (x ∷ xs) k zero all low = absurd (omega (arith, all))
all_below (x ∷ xs) k (suc n) all low =
    ap₂ (λ (a b : Bool). a && b) (is_below x k (low 0 (omega arith))) (all_below xs k n (omega (arith, all)) (λ i lt. low (suc i) (omega (arith, lt))))

-- a step in which nothing is found, whether or not it is told of which ways those come that go on
pub quiet_entry : (classes : Classes) (cells : List Cell) (row : ℕ) (sight : Sight) (t : Transition) → (t.kind ≡ Quiet) ⊎ (t.kind ≡ kinds.Mixed)
    → IsEntry classes cells row sight t → IsTransition classes cells row sight t × IsQuiet cells t
quiet_entry classes cells row sight t is told =
    elim is [
      | inl quiet ↦ (let on = subst (λ (k : Kind). IsOfKind k classes cells row sight t) quiet told in (on.0, on.1))
      | inr mixed ↦ subst (λ (k : Kind). IsOfKind k classes cells row sight t) mixed told
    ]

-- of which way a match comes that is found
module _ (a : Attempt) (cells : Cells) (at : Stand) (ways starts : List ℕ) (found : Option Span)
    (row past : ℕ) (asked : Sight) (t : Transition) (d : Cell) (sees : Sees a cells.table.classes at.place past asked)
    (is : IsAt a cells at ways starts found) (rowed : row ≡ row_if found at.next at.begun)
    (told : IsTransition cells.table.classes cells.cells.items row asked t)
    (there : slice_get cells.cells.items t.cell ≡ Some d) where
  abbrev many : ℕ
  many = length (begun_if found ways a.code.now.start)

  abbrev all_come : List ℕ
  all_come = map from_of (own a cells at ways starts found row past asked t d sees is rowed told there).after

  pub earlier_found : t.origin ≡ Earlier → IfSome d.matched (λ f. f < many - 1)
  earlier_found e =
      let come : ComeFrom Earlier many all_come d.matched = subst (λ (o : Origin). ComeFrom o many all_come d.matched) e (comes a cells at ways starts found row past asked t d sees is rowed told there) in
      come.1

  pub last_found : t.origin ≡ Last → IfSome d.matched (λ f. f ≡ many - 1)
  last_found e =
      let come : ComeFrom Last many all_come d.matched = subst (λ (o : Origin). ComeFrom o many all_come d.matched) e (comes a cells at ways starts found row past asked t d sees is rowed told there) in
      come.2

  pub some_way : t.origin ≡ Last → 0 < many
  some_way e =
      let come : ComeFrom Last many all_come d.matched = subst (λ (o : Origin). ComeFrom o many all_come d.matched) e (comes a cells at ways starts found row past asked t d sees is rowed told there) in
      come.0

-- ways that come from some with one beginning have it too
began_at_one : (starts : List ℕ) (s : ℕ) (test : ℕ → Bool) (next : List Way) → ((f : ℕ) → test f ≡ true → slice_index starts f ≡ s) → list_all test (map from_of next) ≡ true
    → map (start_in starts) next ≡ replicate (length (map at_of next)) s
began_at_one starts s test [] tells all = refl
began_at_one starts s test (w ∷ ws) tells all =
    let parts = and_parts (test w.from) (list_all test (map from_of ws)) all in
    ap₂ (λ (x : ℕ) (xs : List ℕ). x ∷ xs) (tells w.from parts.0) (began_at_one starts s test ws tells parts.1)

pub index_one : (n s f : ℕ) → f < n → slice_index (replicate n s) f ≡ s
index_one zero s f lt = absurd (omega (arith, lt))
index_one (suc n) s zero lt = refl
index_one (suc n) s (suc f) lt = index_one n s f (omega (arith, lt))

index_before : (xs : List ℕ) (p f : ℕ) → f < length xs → slice_index (xs ++ p ∷ []) f ≡ slice_index xs f
index_before [] p f lt = absurd (omega (arith, lt))
index_before (x ∷ xs) p zero lt = refl
index_before (x ∷ xs) p (suc f) lt = index_before xs p f (omega (arith, lt))

index_last : (xs : List ℕ) (p f : ℕ) → f ≡ length xs → slice_index (xs ++ p ∷ []) f ≡ p
index_last xs p f e = ap (slice_index (xs ++ p ∷ [])) e ∙ at xs where
  at : (xs : List ℕ) → slice_index (xs ++ p ∷ []) (length xs) ≡ p
  at [] = refl
  at (x ∷ xs) = at xs

-- where a way began that has this number among those before, and one more
pub earlier_began : (ways : List ℕ) (start s p f : ℕ) → f < length (ways ++ start ∷ []) - 1 → slice_index (replicate (length ways) s ++ p ∷ []) f ≡ s
earlier_began ways start s p f lt =
    let more = length-append ways (start ∷ []) in
    let size = length-replicate (length ways) s in
    let low : f < length ways = omega (arith, lt, more) in
    index_before (replicate (length ways) s) p f (omega (arith, low, size)) ∙ index_one (length ways) s f low

pub last_began : (ways starts : List ℕ) (start p f : ℕ) → length starts ≡ length ways → f ≡ length (ways ++ start ∷ []) - 1 → slice_index (starts ++ p ∷ []) f ≡ p
last_began ways starts start p f even e =
    let more = length-append ways (start ∷ []) in
    index_last starts p f (omega (arith, even, e, more))

-- what all ways began at, and a match that is found
module _ (a : Attempt) (cells : Cells) (at : Stand) (ways : List ℕ) (s : ℕ) (after : Option Span) (past : ℕ) (t : Transition) (d : Cell) where
  abbrev Sole_at : ℕ → Type 0
  Sole_at p = (next : List ℕ) × IsAt a cells (stood past t) next (replicate (length next) p) after

  pub keeps_start : Stepped a cells at ways (replicate (length ways) s) None after past t d → t.origin ≡ Earlier → Sole_at s
  keeps_start st e =
      let come : ComeFrom Earlier (length (ways ++ a.code.now.start ∷ [])) (map from_of st.next) d.matched = subst (λ (o : Origin). ComeFrom o (length (ways ++ a.code.now.start ∷ [])) (map from_of st.next) d.matched) e st.come in (
        map at_of st.next,
        subst (λ (ss : List ℕ). IsAt a cells (stood past t) (map at_of st.next) ss after)
            (began_at_one (replicate (length ways) s ++ at.place ∷ []) s (λ f. nat_lt f (length (ways ++ a.code.now.start ∷ []) - 1)) st.next
            (λ f lt. earlier_began ways a.code.now.start s at.place f (below f _ lt)) come.0) st.stands,
      )

  pub starts_here : (starts : List ℕ) → length starts ≡ length ways → Stepped a cells at ways starts None after past t d → t.origin ≡ Last → Sole_at at.place
  starts_here starts even st e =
      let come : ComeFrom Last (length (ways ++ a.code.now.start ∷ [])) (map from_of st.next) d.matched = subst (λ (o : Origin). ComeFrom o (length (ways ++ a.code.now.start ∷ [])) (map from_of st.next) d.matched) e st.come in (
        map at_of st.next,
        subst (λ (ss : List ℕ). IsAt a cells (stood past t) (map at_of st.next) ss after)
            (began_at_one (starts ++ at.place ∷ []) at.place (λ f. nat_eq f (length (ways ++ a.code.now.start ∷ []) - 1)) st.next
            (λ f same. last_began ways starts a.code.now.start at.place f even (equal f _ same)) come.1) st.stands,
      )

pub cell_there : (cells : List Cell) (k : ℕ) → k < length cells → (d : Cell) × (slice_get cells k ≡ Some d)
cell_there cells k lt =
    elim (slice_get_cases cells k).1 [
      | inl there ↦ (there.0, there.2)
      | inr past ↦ absurd (omega (arith, lt, past.0))
    ]

pub some_of : (o : Option ℕ) → is_some o ≡ true → (f : ℕ) × (o ≡ Some f)
some_of None e = absurd (cc)
some_of (Some f) e = (f, refl)

-- where one of the first ways began
led_index : (k s : ℕ) (rest : List ℕ) (p f : ℕ) → f < k → slice_index ((replicate k s ++ rest) ++ p ∷ []) f ≡ s
led_index zero s rest p f lt = absurd (omega (arith, lt))
led_index (suc k) s rest p zero lt = refl
led_index (suc k) s rest p (suc f) lt = led_index k s rest p f (omega (arith, lt))

led_began : (starts : List ℕ) (k s p f : ℕ) → StartsWith starts k s → f < k → slice_index (starts ++ p ∷ []) f ≡ s
led_began starts k s p f leads lt = ap (λ (xs : List ℕ). slice_index (xs ++ p ∷ []) f) leads.1 ∙ led_index k s leads.0 p f lt

-- all ways come from the first ones
led_first : (a : Attempt) (cells : Cells) (at : Stand) (ways starts : List ℕ) (after : Option Span) (past : ℕ) (t : Transition) (d : Cell) (k s : ℕ)
    → StartsWith starts k s → ComeFromFirst k d.came.items d.matched → Stepped a cells at ways starts None after past t d
    → (next : List ℕ) × IsAt a cells (stood past t) next (replicate (length next) s) after
led_first a cells at ways starts after past t d k s leads come st =
    let all = subst (λ (xs : List ℕ). list_all (λ f. nat_lt f k) xs ≡ true) st.came come.0 in (
      map at_of st.next,
      subst (λ (ss : List ℕ). IsAt a cells (stood past t) (map at_of st.next) ss after)
          (began_at_one (starts ++ at.place ∷ []) s (λ f. nat_lt f k) st.next (λ f lt. led_began starts k s at.place f leads (below f k lt)) all) st.stands,
    )

-- some of the first ways come from the first ones
first_kept : (starts : List ℕ) (k s p : ℕ) → StartsWith starts k s → (n : ℕ) (next : List Way) → n ≤ length (map from_of next)
    → ((i : ℕ) → i < n → slice_index (map from_of next) i < k) → StartsWith (map (start_in (starts ++ p ∷ [])) next) n s
first_kept starts k s p leads zero next low come = (map (start_in (starts ++ p ∷ [])) next, refl)
first_kept starts k s p leads (suc n) [] low come = absurd (omega (arith, low))
first_kept starts k s p leads (suc n) (w ∷ ws) low come =
    let rest = first_kept starts k s p leads n ws (omega (arith, low)) (λ i lt. come (suc i) (omega (arith, lt))) in
    (rest.0, ap₂ (λ (x : ℕ) (xs : List ℕ). x ∷ xs) (led_began starts k s p w.from leads (come 0 (omega arith))) rest.1)

module _ (a : Attempt) (cells : Cells) (at : Stand) (past : ℕ) (asked : Sight) (t : Transition) (sees : Sees a cells.table.classes at.place past asked) where
  -- the step from a row on what is read there
  abbrev pub Tells : ℕ → (List Cell → Transition → Type 0) → Type 0
  Tells row Also = IsTransition cells.table.classes cells.cells.items row asked t × Also cells.cells.items t

  -- nothing is found, and the ways after the step come from those that waited
  pub quiet_earlier : (ways : List ℕ) (s : ℕ) → IsAt a cells at ways (replicate (length ways) s) None → Tells at.begun IsQuiet
      → t.origin ≡ Earlier → (next : List ℕ) × IsAt a cells (stood past t) next (replicate (length next) s) None
  quiet_earlier ways s is told e =
      let there = cell_there cells.cells.items t.cell told.0.stands in
      keeps_start a cells at ways s None past t there.0
      (quiet a cells at ways (replicate (length ways) s) None at.begun past asked t there.0 sees is refl told.0 there.1 (told.1 there.0 there.1)) e

  -- or from the one that began
  pub quiet_last : (ways starts : List ℕ) → IsAt a cells at ways starts None → Tells at.begun IsQuiet
      → t.origin ≡ Last → (next : List ℕ) × IsAt a cells (stood past t) next (replicate (length next) at.place) None
  quiet_last ways starts is told e =
      let there = cell_there cells.cells.items t.cell told.0.stands in
      starts_here a cells at ways 0 None past t there.0 starts is.going.even
      (quiet a cells at ways starts None at.begun past asked t there.0 sees is refl told.0 there.1 (told.1 there.0 there.1)) e

  -- or from both
  pub quiet_amid : (ways starts : List ℕ) → IsAt a cells at ways starts None → Tells at.begun IsQuiet → IsAmid a cells (stood past t)
  quiet_amid ways starts is told =
      let there = cell_there cells.cells.items t.cell told.0.stands in
      let st = quiet a cells at ways starts None at.begun past asked t there.0 sees is refl told.0 there.1 (told.1 there.0 there.1) in
      (map at_of st.next, map (start_in (starts ++ at.place ∷ [])) st.next, st.stands)

  -- some of the first ways come from the first ones
  pub quiet_led : (m : Amid) (led : ℕ) → IsLed a cells m → m.stand ≡ at → Tells at.begun IsQuiet → KeepsFirst cells m t led
      → IsLed a cells (record { stand = stood past t; start = m.start; led = led })
  quiet_led m led is same told keeps =
      let there = cell_there cells.cells.items t.cell told.0.stands in
      let here = subst (λ (st : Stand). IsAt a cells st is.ways is.starts None) same is.here in
      let st = quiet a cells at is.ways is.starts None at.begun past asked t there.0 sees here refl told.0 there.1 (told.1 there.0 there.1) in
      let kept = subst (λ (came : List ℕ). (led ≤ length came) × ((i : ℕ) → i < led → slice_index came i < m.led)) st.came (keeps there.0 there.1) in
      record {
        ways = map at_of st.next;
        starts = map (start_in (is.starts ++ at.place ∷ [])) st.next;
        here = st.stands;
        leads = first_kept is.starts m.led m.start at.place is.leads led st.next kept.0 kept.1;
      }

  -- all ways come from the first ones, and so does a match that is found
  pub led_quiet : (m : Amid) → IsLed a cells m → m.stand ≡ at → Tells at.begun IsQuiet → IsLedOn cells m t
      → (next : List ℕ) × IsAt a cells (stood past t) next (replicate (length next) m.start) None
  led_quiet m led same told on =
      let there = cell_there cells.cells.items t.cell told.0.stands in
      let is = subst (λ (st : Stand). IsAt a cells st led.ways led.starts None) same led.here in
      led_first a cells at led.ways led.starts None past t there.0 m.led m.start led.leads (on there.0 there.1)
      (quiet a cells at led.ways led.starts None at.begun past asked t there.0 sees is refl told.0 there.1 (told.1 there.0 there.1))

  pub led_found : (m : Amid) → IsLed a cells m → m.stand ≡ at → Tells at.begun IsMatching → IsLedOn cells m t
      → (next : List ℕ) × IsAt a cells (stood past t) next (replicate (length next) m.start) (Some (record { start = m.start; end = at.place }))
  led_found m led same told on =
      let there = cell_there cells.cells.items t.cell told.0.stands in
      let is = subst (λ (st : Stand). IsAt a cells st led.ways led.starts None) same led.here in
      let come = on there.0 there.1 in
      let some = some_of there.0.matched (told.1 there.0 there.1) in
      let low : some.0 < m.led = subst (λ (o : Option ℕ). IfSome o (λ f. f < m.led)) some.1 come.1 in
      led_first a cells at led.ways led.starts (Some (record { start = m.start; end = at.place })) past t there.0 m.led m.start led.leads come
      (matching a cells at led.ways led.starts None at.begun past asked t there.0 sees is refl told.0 there.1 some.0 m.start some.1
      (led_began led.starts m.led m.start at.place some.0 led.leads low))

  -- a match is found
  pub found_earlier : (ways : List ℕ) (s : ℕ) → IsAt a cells at ways (replicate (length ways) s) None → Tells at.begun IsMatching
      → t.origin ≡ Earlier → (next : List ℕ) × IsAt a cells (stood past t) next (replicate (length next) s) (Some (record { start = s; end = at.place }))
  found_earlier ways s is told e =
      let there = cell_there cells.cells.items t.cell told.0.stands in
      let some = some_of there.0.matched (told.1 there.0 there.1) in
      let starts = replicate (length ways) s in
      let come = subst (λ (o : Option ℕ). IfSome o (λ f. f < length (ways ++ a.code.now.start ∷ []) - 1)) some.1
      (earlier_found a cells at ways starts None at.begun past asked t there.0 sees is refl told.0 there.1 e) in
      keeps_start a cells at ways s (Some (record { start = s; end = at.place })) past t there.0
      (matching a cells at ways starts None at.begun past asked t there.0 sees is refl told.0 there.1 some.0 s some.1
      (earlier_began ways a.code.now.start s at.place some.0 come)) e

  pub found_last : (ways starts : List ℕ) → IsAt a cells at ways starts None → Tells at.begun IsMatching
      → t.origin ≡ Last → (next : List ℕ) × IsAt a cells (stood past t) next (replicate (length next) at.place) (Some (record { start = at.place; end = at.place }))
  found_last ways starts is told e =
      let there = cell_there cells.cells.items t.cell told.0.stands in
      let some = some_of there.0.matched (told.1 there.0 there.1) in
      let come = subst (λ (o : Option ℕ). IfSome o (λ f. f ≡ length (ways ++ a.code.now.start ∷ []) - 1)) some.1
      (last_found a cells at ways starts None at.begun past asked t there.0 sees is refl told.0 there.1 e) in
      starts_here a cells at ways 0 (Some (record { start = at.place; end = at.place })) past t there.0 starts is.going.even
      (matching a cells at ways starts None at.begun past asked t there.0 sees is refl told.0 there.1 some.0 at.place some.1
      (last_began ways starts a.code.now.start at.place some.0 is.going.even come)) e

-- it is told of which ways those come that go on
pub sorted : (o : Origin) → o ≢ Mixed → (o ≡ Earlier) ⊎ (o ≡ Last)
sorted Earlier told = inl refl
sorted Last told = inr refl
sorted Mixed told = absurd (told refl)

-- where no way waits, they began anywhere
pub idle_sole : (a : Attempt) (cells : Cells) (at : Stand) (idle start : ℕ) → IsIdle cells.rows.lists.items idle → at.next ≡ idle → IsAmid a cells at
    → (next : List ℕ) × IsAt a cells at next (replicate (length next) start) None
idle_sole a cells at idle start empty same is =
    let ways = is.0 in
    let here = is.2 in
    let v = here.waits.0 in
    let none : ways ≡ [] = sym here.waits.2 ∙ empty v (ap (slice_get cells.rows.lists.items) (sym same) ∙ here.waits.1) in
    let nothing : is.1 ≡ [] = no_items is.1 (here.going.even ∙ ap length none) in
    (ways, subst (λ (ss : List ℕ). IsAt a cells at ways ss None) (nothing ∙ sym (ap (λ (ws : List ℕ). replicate (length ws) start) none)) here)

append_none : (xs : List ℕ) → xs ≡ xs ++ []
append_none [] = refl
append_none (x ∷ xs) = ap (λ (ys : List ℕ). x ∷ ys) (append_none xs)

-- where all ways began at one place, the first ones did
pub sole_led : (a : Attempt) (cells : Cells) (s : Sole) (led : ℕ) → IsSole a cells s → s.end ≡ None
    → led ≡ length (ways_at cells.rows.lists.items s.stand.next) → IsLed a cells (record { stand = s.stand; start = s.start; led = led })
sole_led a cells s led is nothing all =
    let same = all ∙ ap length (row_ways cells.rows.lists.items s.stand.next is.0 is.1.waits) in
    record {
      ways = is.0;
      starts = replicate (length is.0) s.start;
      here = subst (λ (o : Option ℕ). IsAt a cells s.stand is.0 (replicate (length is.0) s.start) (match_from s.start o)) nothing is.1;
      leads = ([], ap (λ (n : ℕ). replicate n s.start) (sym same) ∙ append_none (replicate led s.start));
    }

-- no way waits at a place, and nothing was found
pub no_ways : (a : Attempt) (cells : Cells) (at : Stand) (ways starts : List ℕ) → ways ≡ [] → IsAt a cells at ways starts None
    → HasRows cells.rows.lists.items at.next at.begun [] a.code.now.start × Going a [] [] None at.place at.place
no_ways a cells at ways starts none here =
    let rows = cells.rows.lists.items in
    let nothing : starts ≡ [] = no_items starts (here.going.even ∙ ap length none) in (
      record {
        waits = subst (HasRow rows at.next) none here.waits;
        opens = subst (λ (ws : List ℕ). HasRow rows at.begun (ws ++ a.code.now.start ∷ [])) none here.opens;
      },
      going_same a _ _ _ _ None None at.place at.place at.place none nothing refl refl here.going,
    )

-- so it is where its row is idle
pub idle_rows : (a : Attempt) (cells : Cells) (at : Stand) (idle : ℕ) → IsIdle cells.rows.lists.items idle → at.next ≡ idle → IsAmid a cells at
    → HasRows cells.rows.lists.items at.next at.begun [] a.code.now.start × Going a [] [] None at.place at.place
idle_rows a cells at idle empty same is =
    let here = is.2 in
    no_ways a cells at is.0 is.1 (sym here.waits.2 ∙ empty here.waits.0 (ap (slice_get cells.rows.lists.items) (sym same) ∙ here.waits.1)) here

-- what else is remembered does not matter
pub sole_kept : (a : Attempt) (cells later : Cells) (s : Sole) → KeepsHolding cells later → later.rows.lists.items ≡ cells.rows.lists.items → later.table.classes ≡ cells.table.classes
    → IsSole a cells s → IsSole a later s
sole_kept a cells later s keeps rows classes is =
    let at = is.1 in (
      is.0,
      record {
        followed = at.followed;
        kept = keeps.bounded at.kept;
        all = keeps.stays a.code.now at.all;
        waits = subst (λ (rs : List (Vec ℕ)). HasRow rs s.stand.next is.0) (sym rows) at.waits;
        opens = subst (λ (rs : List (Vec ℕ)). HasRow rs s.stand.begun (is.0 ++ a.code.now.start ∷ [])) (sym rows) at.opens;
        going = at.going;
        begins = subst (λ (k : Classes). IsStart (context_in a) s.stand.place k s.stand.begun s.stand.opened) (sym classes) at.begins;
        good = at.good;
        within = at.within;
      },
    )

-- a step that the table tells, wherever the ways began
pub waits_on : (a : Attempt) (cells : Cells) (at : Stand) (starts : List ℕ) (found : Option Span) (row past : ℕ) (asked : Sight) (t : Transition) (d : Cell)
    → Sees a cells.table.classes at.place past asked → Waits a cells at starts found → row ≡ row_if found at.next at.begun
    → IsTransition cells.table.classes cells.cells.items row asked t → slice_get cells.cells.items t.cell ≡ Some d
    → Waits a cells (stood past t) (starts_from (begun_if found starts at.place) d.came.items) (found_after found (begun_if found starts at.place) d.matched at.place)
waits_on a cells at starts found row past asked t d sees is rowed told there =
    let begun = begun_if found starts at.place in
    let after = found_after found begun d.matched at.place in
    let st = stepped a cells at is.0 starts found row past asked t d sees is.1 rowed told there after (found_first found begun d.matched at.place) in (
      map at_of st.next,
      subst (λ (ss : List ℕ). IsAt a cells (stood past t) (map at_of st.next) ss after) (sym (ap (starts_from begun) st.came ∙ starts_by begun st.next)) st.stands,
    )

-- where a search stands
pub front_waits_at : (a : Attempt) (cells : Cells) (f : Front) (at : Stand) (p : ℕ) → Stands a cells f p
    → at.place ≡ p → at.next ≡ f.next → at.begun ≡ f.begun → IsStart (context_in a) p cells.table.classes at.begun at.opened
    → IsAt a cells at (ways_of cells f) f.starts.waiting.items f.found
front_waits_at a cells f at p stands place next begun begins =
    let is = stands.front in
    let rows = cells.rows.lists.items in
    let back = sym place in
    record {
      followed = is.followed;
      kept = is.kept;
      all = is.all;
      waits = subst (λ (r : ℕ). HasRow rows r (ways_of cells f)) (sym next) is.waits;
      opens = subst (λ (r : ℕ). HasRow rows r (ways_of cells f ++ a.code.now.start ∷ [])) (sym begun) is.opens;
      going = subst (λ (q : ℕ). Going a (ways_of cells f) f.starts.waiting.items f.found q q) back is.going;
      begins = subst (λ (q : ℕ). IsStart (context_in a) q cells.table.classes at.begun at.opened) back begins;
      good = subst (λ (q : ℕ). may_end_in a q ≡ true) back stands.good;
      within = omega (arith, place, stands.within);
    }

-- a search all of whose ways began at one place
pub sole_front : (a : Attempt) (cells : Cells) (f : Front) (at : Stand) (p s : ℕ) (end : Option ℕ) → Stands a cells f p
    → f.starts.waiting.items ≡ replicate (length f.starts.waiting.items) s → f.found ≡ match_from s end
    → at.place ≡ p → at.next ≡ f.next → at.begun ≡ f.begun → IsStart (context_in a) p cells.table.classes at.begun at.opened
    → IsSole a cells (record { stand = at; start = s; end = end })
sole_front a cells f at p s end stands one found place next begun begins = (
  ways_of cells f,
  subst (λ (o : Option Span). IsAt a cells at (ways_of cells f) (replicate (length (ways_of cells f)) s) o) found
      (subst (λ (ss : List ℕ). IsAt a cells at (ways_of cells f) ss f.found) (one ∙ ap (λ (n : ℕ). replicate n s) stands.front.going.even)
      (front_waits_at a cells f at p stands place next begun begins)),
)

-- and back
pub waits_front : (a : Attempt) (cells : Cells) (f : Front) (at : Stand) → f.next ≡ at.next → f.begun ≡ at.begun
    → Waits a cells at f.starts.waiting.items f.found → IsFront a cells f at.place at.place
waits_front a cells f at next begun is =
    let rows = cells.rows.lists.items in
    let here = is.1 in
    let leads : HasRow rows f.next is.0 = subst (λ (r : ℕ). HasRow rows r is.0) (sym next) here.waits in
    let ways : ways_of cells f ≡ is.0 = row_ways rows f.next is.0 leads in
    record {
      followed = here.followed;
      kept = here.kept;
      all = here.all;
      waits = row_holds rows f.next is.0 leads;
      opens = subst (λ (ws : List ℕ). HasRow rows f.begun (ws ++ a.code.now.start ∷ [])) (sym ways)
          (subst (λ (r : ℕ). HasRow rows r (is.0 ++ a.code.now.start ∷ [])) (sym begun) here.opens);
      going = going_same a _ _ _ _ _ _ _ _ at.place (sym ways) refl refl refl here.going;
    }

pub front_sole : (a : Attempt) (cells : Cells) (s : Sole) (f : Front) (n : ℕ) → IsSole a cells s → f.next ≡ s.stand.next → f.begun ≡ s.stand.begun
    → f.starts.waiting.items ≡ replicate n s.start → n ≡ length (ways_at cells.rows.lists.items s.stand.next) → f.found ≡ match_from s.start s.end
    → IsFront a cells f s.stand.place s.stand.place
front_sole a cells s f n is next begun starts size found =
    let ways = row_ways cells.rows.lists.items s.stand.next is.0 is.1.waits in
    waits_front a cells f s.stand next begun (
      is.0,
      subst (λ (o : Option Span). IsAt a cells s.stand is.0 f.starts.waiting.items o) (sym found)
          (subst (λ (ss : List ℕ). IsAt a cells s.stand is.0 ss (match_from s.start s.end)) (sym (starts ∙ ap (λ (k : ℕ). replicate k s.start) (size ∙ ap length ways))) is.1),
    )
