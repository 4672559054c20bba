-- The positions at which a search must make an attempt.
use Rattle.std.specs.Prelude.{◌≡◌, ℕ, zero, suc, ◌+◌, ◌-◌, ◌<◌, ◌≤◌, ◌⊎◌, false, List, length, Option, Some, None, IfSome, slice_index, Box}
use Rattle.std.specs.Global.{Global}
use Rattle.fancy_input.specs.Lines.{byte_before}
use Rattle.fancy_input.specs.Places.{is_continuation}
use Rattle.fancy_code.specs.declared.code.Code.{Code}
use Rattle.fancy_code.specs.Compile.{IsCodeOf}
use Rattle.fancy_meaning.specs.Search.{Query}
use Rattle.fancy_prices.specs.declared.entries.Entries.{Entries}
use Rattle.fancy_prices.specs.declared.rows.Rows.{Rows}
use Rattle.fancy_prices.specs.declared.entries.Priced.{Priced}
use Rattle.fancy_prices.specs.declared.entries.Told.{Told}
use Rattle.fancy_prices.specs.declared.price.Price.{Price}
use Rattle.fancy_prices.specs.Prices.{CostsAt, IsNothing}
use Rattle.fancy_prices.specs.Rows.{TellsAfter}
use Rattle.fancy_prices.specs.Around.{is_costly, price_after, price_behind}

-- what is told, out of its box
abbrev pub unboxed : Option (Box Told Global) → Option Told
unboxed None = None
unboxed (Some b) = Some b.value

-- what is told of an attempt, by the byte before the one before a position, what stands before it and the byte there: it finds nothing, and costs this
abbrev pub EntryTest : Type 1
EntryTest = Option ℕ → Option ℕ → ℕ → Price → Type 0

-- the price is in a row, or in that of the byte before the one before, or nothing where a row says so
abbrev pub is_told : Option Told → EntryTest
is_told None second before here c = ⊥
is_told (Some t) second before here c =
    (price_after t.rows before here ≡ Some c)
    ⊎ (((is_continuation here ≡ false) × (price_behind t.behind second ≡ Some c)) ⊎ ((is_costly t.rows before here ≡ false) × IsNothing c))

abbrev pub is_entry : Entries → EntryTest
is_entry e = is_told (unboxed e.told)

-- so it is after each byte, and after nothing
abbrev pub TellRows : Code → Rows → Type 0
TellRows code r =
    (before : Option ℕ) → IfSome before (λ b. b < 256) → (here : ℕ) → here < 256 → TellsAfter code before here (price_after r before here)

-- this is told of p
abbrev pub IsToldOf : EntryTest → List ℕ → ℕ → Price → Type 0
IsToldOf entry haystack p c = entry (byte_before haystack (p - 1)) (byte_before haystack p) (slice_index haystack p) c

-- Where a price is told, within the range, an attempt with the code finds nothing, and costs that.
abbrev pub AreEntries : EntryTest → Code → Type 0
AreEntries entry code =
    (q : Query) → IsCodeOf q.sought.pattern code → q.sought.meaning ≡ code.meaning → q.request.range_end ≤ length q.haystack
    → ((k : ℕ) → slice_index q.haystack k < 256)
    → (p : ℕ) → p < q.request.range_end → (c : Price) → IsToldOf entry q.haystack p c → CostsAt q p c

-- so it is, and p is within the range
abbrev pub IsToldAt : EntryTest → List ℕ → ℕ → ℕ → Price → Type 0
IsToldAt entry haystack range_end p c = (p < range_end) × IsToldOf entry haystack p c

-- an attempt at p costs nothing
abbrev pub IsPassed : EntryTest → List ℕ → ℕ → ℕ → Type 0
IsPassed entry haystack range_end p = (c : Price) × IsToldAt entry haystack range_end p c × IsNothing c

-- p is a position, from the one on and up to the other, or past both, before which attempts cost nothing from the one on
pub record IsNextEntry (entry : EntryTest) (haystack : List ℕ) (range_end from last p : ℕ) : Type 0 where
  pub passed : from ≤ p
  pub within : p ≤ last + 1
  pub none : (k : ℕ) → from ≤ k → k < p → IsPassed entry haystack range_end k

-- of the places from the one on and before the other it is told that attempts cost nothing
abbrev pub ArePassed : Told → List ℕ → ℕ → ℕ → Type 0
ArePassed told haystack from to = (k : ℕ) → from ≤ k → k < to → IsPassed (is_told (Some told)) haystack to k

-- p is a place, from the one on and up to the other, before which it is told so
pub record IsNextCostly (told : Told) (haystack : List ℕ) (from to p : ℕ) : Type 0 where
  pub passed : from ≤ p
  pub within : p ≤ to
  pub none : ArePassed told haystack from p

-- of each of so many places from p on a price is told, and so many returns they take in all
abbrev pub TakeInAll : EntryTest → List ℕ → ℕ → ℕ → ℕ → Type 0
TakeInAll entry haystack p zero returns = returns ≡ 0
TakeInAll entry haystack p (suc n) returns =
    (c : Price) × IsToldOf entry haystack (p + n) c × (before : ℕ) × (returns ≡ before + c.returns) × TakeInAll entry haystack p n before

-- So it is of the places from the one on, up to the other at most.
pub record ArePricedFrom (entry : EntryTest) (haystack : List ℕ) (from to : ℕ) (priced : Priced) : Type 0 where
  pub passed : from < priced.past
  pub within : priced.past ≤ to
  pub returns : TakeInAll entry haystack from (priced.past - from) priced.returns
