pub mod WordLemmas
pub mod EndsLemmas
pub mod ChainLemmas
pub mod ItemLemmas
pub mod ClassBuilderLemmas
pub mod NumberEscapeLemmas
pub mod ClassSteps
pub mod ClassSpelling
