pub mod Words
pub mod Groups
pub mod Values
pub mod Settings
pub mod Defaults
pub mod Arguments
pub mod Becoming
