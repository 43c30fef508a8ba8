mod Readings
pub mod Strings
mod Rounds
mod Takes
mod KeyNames
pub mod Keywords
mod Words
mod Masks
mod Numbers
pub mod Pieces
pub mod Laws
pub mod Reasons
pub mod Nearby
pub mod Others
pub mod Lawful
pub mod TokenLaws
pub mod Shorter
pub mod PassedOver
pub mod PlacedTokens
