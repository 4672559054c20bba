pub mod Templates
pub mod Expansions
pub mod Marks
pub mod Expanders
pub mod Expanded
pub mod Checks
pub mod Appended
pub mod Writers
