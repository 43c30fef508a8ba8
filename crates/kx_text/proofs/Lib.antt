pub mod CharacterTable
pub mod Encoding
pub mod FoundSpots
pub mod Joined
pub mod Numbered
pub mod Runs
