pub mod Told
pub mod Front
pub mod Sole
pub mod Decided
pub mod Places
pub mod Earliest
pub mod Asked
