pub mod SplitLemmas
pub mod LoopLemmas
pub mod FrontLemmas
pub mod PassageLemmas
pub mod DenialLemmas
