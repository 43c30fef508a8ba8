pub mod Begun
pub mod Given
