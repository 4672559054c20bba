pub mod Counts
pub mod Blanks
pub mod References
pub mod Dialect
pub mod Flags
pub mod Grammar
pub mod Refusals
pub mod Views
