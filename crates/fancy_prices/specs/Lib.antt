pub mod Facts
pub mod Prices
pub mod Around
pub mod Entries
pub mod Kinds
pub mod Rows
