mod Behind
mod Distinct
pub mod Ends
mod Entries
mod Faultless
mod Left
pub mod Matching
mod Names
mod Naming
mod NumberMaps
mod Numbering
mod Places
mod Standing
pub mod Targets
