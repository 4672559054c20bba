pub mod Words
pub mod Readings
pub mod EscapeGrammar
pub mod ClassGrammar
pub mod ClassReading
pub mod Chains
pub mod ClassViews
