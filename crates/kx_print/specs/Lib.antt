pub mod ActionText
pub mod Masks
pub mod Phrases
pub mod Printed
