pub mod Pieces
pub mod Bytes
pub mod Lines
