-- What is told of attempts, by the byte at which they are made and what stands before.
use Rattle.std.specs.Prelude.{◌≡◌, ℕ, ◌<◌, ◌==◌, ◌&&◌, Bool, true, false, not, List, Option, Some, None, IfSome, slice_index_or}
use Rattle.fancy_input.specs.Places.{is_continuation}
use Rattle.fancy_bytes.specs.Sets.{ByteFlags, member}
use Rattle.fancy_code.specs.declared.code.Code.{Code}
use Rattle.fancy_code.specs.Code.{instrs_of}
use Rattle.fancy_prices.specs.declared.facts.Before.{Before}
use Rattle.fancy_prices.specs.declared.price.Price.{Price}
use Rattle.fancy_prices.specs.Prices.{Dies, DiesAfter, IsNothing}

-- where the price is told an attempt at this byte dies where that stands before, and costs that, and nothing within a character
abbrev pub TellsByte : Code → Option Before → ℕ → Option Price → Type 0
TellsByte code before here price =
    IfSome price (λ c. Dies (instrs_of code) code.meaning (record { here = here; before = before }) c.marks c.returns code.start
    × (is_continuation here ≡ true → IsNothing c))

-- so it is for each byte
abbrev pub TellsRow : Code → Option Before → List (Option Price) → Type 0
TellsRow code before row = (b : ℕ) → b < 256 → TellsByte code before b (slice_index_or row b None)

-- where a byte and what stands before it are these, an attempt dies and costs that, and nothing within a character
abbrev pub TellsAfter : Code → Option ℕ → ℕ → Option Price → Type 0
TellsAfter code before here price =
    IfSome price (λ c. DiesAfter (instrs_of code) code.meaning before here c.marks c.returns code.start × (is_continuation here ≡ true → IsNothing c))

-- whether the price is told, and is nothing
abbrev pub costs_nothing : Option Price → Bool
costs_nothing None = false
costs_nothing (Some c) = (c.marks == 0) && (c.returns == 0)

-- it is said of each byte at which the price is not nothing that an attempt costs something, or may find a match
abbrev pub IsCostlyIn : List (Option Price) → List Bool → Type 0
IsCostlyIn prices costly = (b : ℕ) → b < 256 → slice_index_or costly b false ≡ not (costs_nothing (slice_index_or prices b None))

-- no byte of the set continues a character of UTF-8
abbrev pub AreWhole : ByteFlags → Type 0
AreWhole set = (b : ℕ) → b < 256 → member set b ≡ true → is_continuation b ≡ false
