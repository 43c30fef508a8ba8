pub mod Meaning
pub mod Source
pub mod Made
pub mod Sections
