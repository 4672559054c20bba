pub mod ReadingLemmas
mod RefusalLemmas
pub mod ResultLemmas
pub mod SearchedLemmas
pub mod LaterLemmas
pub mod ProgramSizeLemmas
pub mod CutLemmas
pub mod RisingLemmas
pub mod MatchListLemmas
pub mod ScanLemmas
pub mod RemainingLemmas
pub mod IterationStepLemmas
pub mod SpelledLemmas
pub mod StartLemmas
mod HoldLemmas
mod OneItemLemmas
mod StraightLemmas
pub mod TriedAtLemmas
pub mod KeptTablesLemmas
pub mod HeldLemmas
