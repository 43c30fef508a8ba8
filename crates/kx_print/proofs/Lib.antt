pub mod Chosen
pub mod Listing
pub mod RangeLemmas
pub mod Rows
pub mod Signs
pub mod Writing
