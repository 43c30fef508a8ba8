mod LawfulGeometry
mod LawfulSections
mod Trees
mod Refusals
mod PassedOutline
mod PassedSections
pub mod PlacedSections
pub mod BuiltSections
pub mod OutlinedTexts
pub mod Cutting
