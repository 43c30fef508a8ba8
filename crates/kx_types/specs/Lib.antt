pub mod Firsts
pub mod KeyTypes
pub mod Lawful
pub mod TypeFaults
pub mod TypeFields
pub mod Types
pub mod Shown
