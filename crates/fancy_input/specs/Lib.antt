pub mod Inputs
pub mod Places
pub mod Requests
pub mod Spans
pub mod Lines
pub mod LastLines
pub mod Work
