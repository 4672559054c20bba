pub mod SideLemmas
pub mod NumberLemmas
pub mod ClassLemmas
pub mod SightLemmas
pub mod AlikeLemmas
