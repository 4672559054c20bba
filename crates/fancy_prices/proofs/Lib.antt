pub mod PriceLemmas
mod RowLemmas
pub mod SumOfPrices
pub mod BeginLemmas
pub mod DyingWays
pub mod EntryLemmas
mod AroundLemmas
pub mod FlagLemmas
pub mod FactLemmas
pub mod BehindLemmas
pub mod PriceForms
pub mod FoundBehind
