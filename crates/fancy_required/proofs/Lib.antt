pub mod EndsLemmas
pub mod LongestLemmas
pub mod ToldLemmas
