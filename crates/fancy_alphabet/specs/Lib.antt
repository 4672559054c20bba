pub mod Sides
pub mod Units
pub mod Effects
pub mod Sights
pub mod Alike
pub mod Classes
