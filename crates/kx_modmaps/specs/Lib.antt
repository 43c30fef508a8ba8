pub mod Entries
pub mod Maps
pub mod Shown
pub mod Targets
