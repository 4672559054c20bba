pub mod Frames
pub mod Ways
pub mod Left
pub mod Best
pub mod Log
pub mod Layers
pub mod Moves
