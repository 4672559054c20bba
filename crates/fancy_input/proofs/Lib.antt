pub mod PlaceLemmas
pub mod CharacterLemmas
pub mod DecodingLemmas
pub mod WidthLemmas
pub mod LastLinesLemmas
pub mod TextLemmas
pub mod WorkLemmas
