pub mod Widening
pub mod Replaced
mod LaterLists
mod Settling
mod Values
