pub mod Splits
pub mod Front
pub mod Told
pub mod Once
pub mod Denials
