pub mod RawBoxes
pub mod Slots
pub mod Walk
