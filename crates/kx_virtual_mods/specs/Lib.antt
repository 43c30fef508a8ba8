pub mod Counted
pub mod Tallies
pub mod Sets
pub mod Standing
pub mod Masks
pub mod Once
pub mod Declarations
pub mod Records
