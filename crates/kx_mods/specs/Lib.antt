pub mod Conditions
pub mod Mods
