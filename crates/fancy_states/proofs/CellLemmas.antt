-- Rows and the steps between them.
use Rattle.std.proofs.Common.{◌≡◌, ℕ, zero, suc, ◌+◌, ◌<◌, List, [], ◌∷◌, ◌++◌, Option, Some, None, refl, sym, ap, ◌∙◌, subst, arith, length, map, take, get_or, All}
use Rattle.std.specs.Prelude.{slice_get, slice_index}
use Rattle.fancy_alphabet.specs.declared.sight.Sight.{Sight}
use Rattle.fancy_input.specs.declared.span.Span.{Span}
use Rattle.fancy_alphabet.specs.Sights.{seen_in}
use Rattle.std.specs.Global.{Vec}
use Rattle.std.proofs.lemmas.Option.{slice_get-get_or}
use Rattle.fancy_code.specs.declared.code.Code.{Code}
use Rattle.fancy_code.specs.Code.{instrs_of}
use Rattle.fancy_states.specs.declared.way.Way.{Way}
use Rattle.fancy_states.specs.declared.cells.Cell.{Cell}
use Rattle.fancy_states.specs.Steps.{IsStep, at_of, from_of, start_in}
use Rattle.fancy_states.specs.Search.{begun_if}
use Rattle.fancy_states.specs.declared.origin.Origin.{Origin}
use Rattle.fancy_states.specs.Origins.{ComeFrom}
use Rattle.fancy_states.specs.Cells.{HasRow, KeepsRows, IsCell, IsCellOf, ways_at, items_or, row_if}

pub has_row : (rows : List (Vec ℕ)) (r : ℕ) (v d : Vec ℕ) (ways : List ℕ) → r < length rows → v ≡ get_or rows r d → v.items ≡ ways → HasRow rows r ways
has_row rows r v d ways lt is e = (v, slice_get-get_or rows r d lt ∙ ap Some (sym is), e)

-- a list of one item
pub one_item : (xs : List ℕ) (y d : ℕ) → length xs ≡ 1 → get_or xs 0 d ≡ y → xs ≡ y ∷ []
one_item [] y d e h = absurd (omega arith)
one_item (x ∷ []) y d e h = ap (λ (z : ℕ). z ∷ []) h
one_item (x ∷ z ∷ xs) y d e h = absurd (omega arith)

at_end : (rows : List (Vec ℕ)) (v : Vec ℕ) → slice_get (rows ++ v ∷ []) (length rows) ≡ Some v
at_end [] v = refl
at_end (w ∷ rows) v = at_end rows v

-- a row that was appended
pub last_row : (rows later : List (Vec ℕ)) (r : ℕ) (v : Vec ℕ) → later ≡ rows ++ v ∷ [] → r ≡ length rows → HasRow later r v.items
last_row rows later r v e n =
    (v, ap (λ (x : List (Vec ℕ)). slice_get x r) e ∙ ap (slice_get (rows ++ v ∷ [])) n ∙ at_end rows v, refl)

pub keeps_row : (rows later : List (Vec ℕ)) (r : ℕ) (ways : List ℕ) → KeepsRows rows later → HasRow rows r ways → HasRow later r ways
keeps_row rows later r ways keeps h = (h.0, keeps r h.0 h.1, h.2)

keeps_cell : (code : Code) (rows later : List (Vec ℕ)) (c : Cell) → KeepsRows rows later → IsCellOf code rows c → IsCellOf code later c
keeps_cell code rows later c keeps is = record {
  ways = is.ways;
  after = is.after;
  source = keeps_row rows later c.row is.ways keeps is.source;
  leads = keeps_row rows later c.next (map at_of is.after) keeps is.leads;
  opens = keeps_row rows later c.begun (map at_of is.after ++ code.start ∷ []) keeps is.opens;
  comes = is.comes;
  comes_from = is.comes_from;
  step = is.step;
  halts = is.halts;
}

-- what was remembered stays true
pub keeps_cells : (code : Code) (rows later : List (Vec ℕ)) (cells : List Cell) → KeepsRows rows later → All (IsCellOf code rows) cells → All (IsCellOf code later) cells
keeps_cells code rows later cells keeps all = λ k d lt. keeps_cell code rows later (get_or cells k d) keeps (all k d lt)

pub cell_made : (code : Code) (rows later : List (Vec ℕ)) (row : ℕ) (sight : Sight) (next begun : ℕ) (ways : List ℕ) (after : List Way) (came : List ℕ) (matched : Option ℕ) (origin : Origin)
    → HasRow rows row ways → KeepsRows rows later → HasRow later next (map at_of after) → HasRow later begun (map at_of after ++ code.start ∷ []) → came ≡ map from_of after
    → ComeFrom origin (length ways) came matched → IsStep (instrs_of code) ways (seen_in sight) after matched → (sight.reading ≡ None → after ≡ [])
    → IsCell code later row sight next begun came matched origin
cell_made code rows later row sight next begun ways after came matched origin source keeps leads opens comes comes_from step halts = record {
  ways = ways;
  after = after;
  source = keeps_row rows later row ways keeps source;
  leads = leads;
  opens = opens;
  comes = comes;
  comes_from = comes_from;
  step = step;
  halts = halts;
}

pub has_cell : (cells : List Cell) (k row : ℕ) (sight : Sight) (c d : Cell) → k < length cells → c ≡ get_or cells k d → c.row ≡ row → c.sight ≡ sight
    → (x : Cell) × (slice_get cells k ≡ Some x) × (x.row ≡ row) × (x.sight ≡ sight)
has_cell cells k row sight c d lt is r b = (c, slice_get-get_or cells k d lt ∙ ap Some (sym is), r, b)

cell_end : (cells : List Cell) (c : Cell) → slice_get (cells ++ c ∷ []) (length cells) ≡ Some c
cell_end [] c = refl
cell_end (x ∷ cells) c = cell_end cells c

pub cell_last : (cells : List Cell) (c : Cell) (k : ℕ) → k ≡ length cells → slice_get (cells ++ c ∷ []) k ≡ Some c
cell_last cells c k n = ap (slice_get (cells ++ c ∷ [])) n ∙ cell_end cells c

pub cell_pushed : (cells later : List Cell) (k row : ℕ) (sight : Sight) (c : Cell) → later ≡ cells ++ c ∷ [] → k ≡ length cells → c.row ≡ row → c.sight ≡ sight
    → (x : Cell) × (slice_get later k ≡ Some x) × (x.row ≡ row) × (x.sight ≡ sight)
cell_pushed cells later k row sight c e n r b = (c, ap (λ (x : List Cell). slice_get x k) e ∙ ap (slice_get (cells ++ c ∷ [])) n ∙ cell_end cells c, r, b)

-- one more cell is as true as the others
cells_one : (P : Cell → Type 0) (cells : List Cell) (c : Cell) → All P cells → P c → (k : ℕ) (d : Cell) → k < length (cells ++ c ∷ []) → P (get_or (cells ++ c ∷ []) k d)
cells_one P [] c all is zero d lt = is
cells_one P [] c all is (suc k) d lt = absurd (omega arith)
cells_one P (x ∷ cells) c all is zero d lt = all zero d (omega arith)
cells_one P (x ∷ cells) c all is (suc k) d lt = cells_one P cells c (λ j e h. all (suc j) e (omega arith)) is k d (omega arith)

pub cells_more : (code : Code) (rows later : List (Vec ℕ)) (cells more : List Cell) (row : ℕ) (sight : Sight) (c : Cell) → KeepsRows rows later → All (IsCellOf code rows) cells
    → more ≡ cells ++ c ∷ [] → c.row ≡ row → c.sight ≡ sight → IsCell code later row sight c.next c.begun c.came.items c.matched c.origin → All (IsCellOf code later) more
cells_more code rows later cells more row sight c keeps all e r b is =
    subst (λ (x : List Cell). All (IsCellOf code later) x) (sym e)
    (cells_one (IsCellOf code later) cells c (keeps_cells code rows later cells keeps all)
    (subst (λ (x : ℕ). IsCell code later x c.sight c.next c.begun c.came.items c.matched c.origin) (sym r) (subst (λ (x : Sight). IsCell code later row x c.next c.begun c.came.items c.matched c.origin) (sym b) is)))

-- the ways of a row
pub row_ways : (rows : List (Vec ℕ)) (r : ℕ) (ways : List ℕ) → HasRow rows r ways → ways_at rows r ≡ ways
row_ways rows r ways h = ap items_or h.1 ∙ h.2

pub get_within : {A : Type 0} (xs : List A) (r : ℕ) (v : A) → slice_get xs r ≡ Some v → r < length xs
get_within [] r v e = cc
get_within (w ∷ xs) zero v e = omega arith
get_within (w ∷ xs) (suc r) v e = let lt : r < length xs = get_within xs r v e in omega (arith, lt)

pub row_within : (rows : List (Vec ℕ)) (r : ℕ) (ways : List ℕ) → HasRow rows r ways → r < length rows
row_within rows r ways h = get_within rows r h.0 h.1

pub row_holds : (rows : List (Vec ℕ)) (r : ℕ) (ways : List ℕ) → HasRow rows r ways → HasRow rows r (ways_at rows r)
row_holds rows r ways h = (h.0, h.1, sym (ap items_or h.1))

-- the ways of a row that was there stay
pub row_later : (rows later : List (Vec ℕ)) (r : ℕ) (ways : List ℕ) → KeepsRows rows later → HasRow rows r ways → ways_at later r ≡ ways
row_later rows later r ways keeps h = row_ways later r ways (keeps_row rows later r ways keeps h)

-- one more way waits in the row of a place, unless something was found
pub row_here : (rows : List (Vec ℕ)) (found : Option Span) (next begun start : ℕ) (ways : List ℕ) → HasRow rows next ways → HasRow rows begun (ways ++ start ∷ [])
    → HasRow rows (row_if found next begun) (begun_if found ways start)
row_here rows None next begun start ways a b = b
row_here rows (Some e) next begun start ways a b = a

-- where the ways began, by their numbers alone
pub starts_by : (starts : List ℕ) (after : List Way) → map (λ f. slice_index starts f) (map from_of after) ≡ map (start_in starts) after
starts_by starts [] = refl
starts_by starts (l ∷ ls) = ap (λ (xs : List ℕ). slice_index starts l.from ∷ xs) (starts_by starts ls)

-- a step that is remembered is true of the code
pub cell_is : (code : Code) (rows : List (Vec ℕ)) (cells : List Cell) (k row : ℕ) (sight : Sight) (d : Cell) → All (IsCellOf code rows) cells
    → ((x : Cell) × (slice_get cells k ≡ Some x) × (x.row ≡ row) × (x.sight ≡ sight)) → d ≡ get_or cells k d
    → IsCell code rows row sight d.next d.begun d.came.items d.matched d.origin
cell_is code rows cells k row sight d all h e =
    let lt = get_within cells k h.0 h.1 in
    let both : Some d ≡ Some h.0 = ap Some e ∙ sym (slice_get-get_or cells k d lt) ∙ h.1 in
    let same : d ≡ h.0 = cc in
    let is : IsCellOf code rows d = subst (IsCellOf code rows) (sym e) (all k d lt) in
    subst (λ (r : ℕ). IsCell code rows r sight d.next d.begun d.came.items d.matched d.origin) (ap (λ (x : Cell). x.row) same ∙ h.2)
    (subst (λ (r : Sight). IsCell code rows d.row r d.next d.begun d.came.items d.matched d.origin) (ap (λ (x : Cell). x.sight) same ∙ h.3) is)

get_left : {A : Type 0} (xs : List A) (y x : A) (k : ℕ) → slice_get xs k ≡ Some x → slice_get (xs ++ y ∷ []) k ≡ Some x
get_left [] y x k e = cc
get_left (z ∷ xs) y x zero e = e
get_left (z ∷ xs) y x (suc k) e = get_left xs y x k e

-- one more step, and the others stay
pub grown : (cells later : List Cell) (c : Cell) → later ≡ cells ++ c ∷ [] → (k : ℕ) (x : Cell) → slice_get cells k ≡ Some x → slice_get later k ≡ Some x
grown cells later c e k x h = ap (λ (xs : List Cell). slice_get xs k) e ∙ get_left cells c x k h

-- the row that a number below theirs names
pub row_of : (rows : List (Vec ℕ)) (r : ℕ) → r < length rows → HasRow rows r (ways_at rows r)
row_of [] r lt = absurd (omega (arith, lt))
row_of (v ∷ rows) zero lt = (v, refl, refl)
row_of (v ∷ rows) (suc r) lt = row_of rows r (omega (arith, lt))

-- a row has the instructions that it has
pub row_items : (rows : List (Vec ℕ)) (r : ℕ) (v : Vec ℕ) (ways : List ℕ) → HasRow rows r ways → v ≡ get_or rows r v → v.items ≡ ways
row_items rows r v ways h e =
    let lt = get_within rows r h.0 h.1 in
    let both : Some v ≡ Some h.0 = ap Some e ∙ sym (slice_get-get_or rows r v lt) ∙ h.1 in
    let same : v ≡ h.0 = cc in
    ap (λ (x : Vec ℕ). x.items) same ∙ h.2

pub same_row : (rows : List (Vec ℕ)) (r : ℕ) (a b : List ℕ) → HasRow rows r a → HasRow rows r b → a ≡ b
same_row rows r a b h g = sym (row_ways rows r a h) ∙ row_ways rows r b g

-- a list by its last item
pub last_split : (xs : List ℕ) (n x d : ℕ) → n + 1 ≡ length xs → get_or xs n d ≡ x → xs ≡ take n xs ++ x ∷ []
last_split [] n x d e g = absurd (omega (arith, e))
last_split (y ∷ []) zero x d e g = ap (λ (k : ℕ). k ∷ []) g
last_split (y ∷ z ∷ ys) zero x d e g = absurd (omega (arith, e))
last_split (y ∷ ys) (suc n) x d e g = ap (λ (l : List ℕ). y ∷ l) (last_split ys n x d (omega (arith, e)) g)

pub length-map : {A B : Type 0} (f : A → B) (xs : List A) → length (map f xs) ≡ length xs
length-map f [] = refl
length-map f (x ∷ xs) = ap suc (length-map f xs)

-- what is remembered of the first instruction alone
pub record IsAlone (code : Code) (rows : List (Vec ℕ)) (sight : Sight) (d : Cell) : Type 0 where
  pub after : List Way
  pub leads : HasRow rows d.next (map at_of after)
  pub step : IsStep (instrs_of code) (code.start ∷ []) (seen_in sight) after d.matched
  pub halts : sight.reading ≡ None → after ≡ []

pub alone_is : (code : Code) (rows : List (Vec ℕ)) (cells : List Cell) (k alone : ℕ) (sight : Sight) (d : Cell) → All (IsCellOf code rows) cells
    → ((x : Cell) × (slice_get cells k ≡ Some x) × (x.row ≡ alone) × (x.sight ≡ sight)) → d ≡ get_or cells k d → HasRow rows alone (code.start ∷ [])
    → IsAlone code rows sight d
alone_is code rows cells k alone sight d all h e one =
    let is = cell_is code rows cells k alone sight d all h e in
    record {
      after = is.after;
      leads = is.leads;
      step = subst (λ (ws : List ℕ). IsStep (instrs_of code) ws (seen_in sight) is.after d.matched) (same_row rows alone is.ways (code.start ∷ []) is.source one) is.step;
      halts = is.halts;
    }

-- no step is remembered
pub no_cells : (code : Code) (rows : List (Vec ℕ)) (cells : List Cell) → cells ≡ [] → All (IsCellOf code rows) cells
no_cells code rows cells e k d lt = (let none = ap length e in absurd (omega (arith, lt, none)))
