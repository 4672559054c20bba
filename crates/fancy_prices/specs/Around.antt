-- What rows say of what attempts cost, and what the bytes round a position tell of that.
use Rattle.std.specs.Prelude.{◌≡◌, ℕ, ◌<◌, Bool, true, false, List, [], length, Option, Some, None, IfSome, slice_get, slice_index, slice_index_or}
use Rattle.fancy_bytes.specs.Sets.{ByteFlags, member}
use Rattle.fancy_prefilter.specs.declared.prefilter.Anchor.TheVariants.{Anywhere}
use Rattle.fancy_prefilter.specs.declared.prefilter.Prefilter.{Prefilter}
use Rattle.fancy_prefilter.specs.Prefilters.{window_in}
use Rattle.fancy_bytes.specs.Rows.{set_at}
use Rattle.fancy_code.specs.declared.code.Code.{Code}
use Rattle.fancy_code.specs.Code.{instrs_of}
use Rattle.fancy_prices.specs.declared.facts.Ending.TheVariants.{Second}
use Rattle.fancy_prices.specs.declared.price.Price.{Price}
use Rattle.fancy_prices.specs.declared.rows.Row.{Row}
use Rattle.fancy_prices.specs.declared.rows.Rows.{Rows}
use Rattle.fancy_prices.specs.Prices.{DiesBehind}
use Rattle.fancy_prices.specs.Rows.{AreWhole, costs_nothing}

-- the number of the row that serves after what stands before: the first serves where nothing does
abbrev pub number_before : List ℕ → Option ℕ → ℕ
number_before numbers None = 0
number_before numbers (Some b) = slice_index numbers b

abbrev pub row_of : Rows → Option ℕ → Option Row
row_of r before = slice_get r.rows.items (number_before r.numbers before)

-- the price in a row, for this byte
abbrev pub price_in : Option Row → ℕ → Option Price
price_in None here = None
price_in (Some row) here = slice_index_or row.prices here None

abbrev pub price_after : Rows → Option ℕ → ℕ → Option Price
price_after r before here = price_in (row_of r before) here

-- whether a row says of this byte that an attempt costs something, or may find a match
abbrev pub costly_in : Option Row → ℕ → Bool
costly_in None here = true
costly_in (Some row) here = slice_index_or row.costly here false

abbrev pub is_costly : Rows → Option ℕ → ℕ → Bool
is_costly r before here = costly_in (row_of r before) here

-- the price in the row of what stands before the byte before
abbrev pub price_behind : Option (List (Option Price)) → Option ℕ → Option Price
price_behind None second = None
price_behind (Some row) None = None
price_behind (Some row) (Some b) = slice_index_or row b None

-- where the price is told of a byte, an attempt dies and costs that where this is the one before the byte before it
abbrev pub TellsBehind : Code → ℕ → Option Price → Type 0
TellsBehind code second price = IfSome price (λ c. DiesBehind (instrs_of code) (Second second) c.marks c.returns code.start)

-- so it is for each byte
abbrev pub TellsRowBehind : Code → List (Option Price) → Type 0
TellsRowBehind code row = (b : ℕ) → b < 256 → TellsBehind code b (slice_index_or row b None)

-- where this byte stands, it is said that an attempt costs nothing, whatever stands before it
abbrev pub CostsNothingAt : Rows → ℕ → Type 0
CostsNothingAt rows here = (before : Option ℕ) → IfSome before (λ b. b < 256) → is_costly rows before here ≡ false

-- Where no byte of the set stands before the one before a position, an attempt costs nothing, and no such position is within a character.
abbrev pub AreSecond : Option (List (Option Price)) → ByteFlags → ByteFlags → Type 0
AreSecond behind bytes set = (b : ℕ) → b < 256 → member set b ≡ false → (costs_nothing (price_behind behind (Some b)) ≡ true) × AreWhole bytes

-- the sets of what a filter scans for, none where it scans for no window
abbrev pub sets_of : Option (List ByteFlags) → List ByteFlags
sets_of None = []
sets_of (Some sets) = sets

-- the filter scans for a window, and tells nothing else
abbrev pub ScansForWindow : Prefilter → Type 0
ScansForWindow filter = (filter.starts ≡ None) × (filter.anchor ≡ Anywhere) × (filter.region ≡ None)

-- It scans for three sets, for two bytes before a position and the one there: where one of these is not in its set, an attempt costs nothing.
abbrev pub AreAround : Rows → Option (List (Option Price)) → ByteFlags → List ByteFlags → Type 0
AreAround rows behind bytes sets =
    (length sets ≡ 3) × AreSecond behind bytes (set_at sets 0)
    × ((b : ℕ) → b < 256 → member (set_at sets 1) b ≡ false → (here : ℕ) → here < 256 → is_costly rows (Some b) here ≡ false)
    × ((b : ℕ) → b < 256 → member (set_at sets 2) b ≡ false → member bytes b ≡ false)

abbrev pub IsAround : Rows → Option (List (Option Price)) → ByteFlags → Prefilter → Type 0
IsAround rows behind bytes filter = ScansForWindow filter × AreAround rows behind bytes (sets_of (window_in filter.opening))
