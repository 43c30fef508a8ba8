pub mod Bodies
pub mod Sources
pub mod Rows
pub mod Types
pub mod NoModifiers
pub mod Groups
pub mod Given
pub mod Resolving
