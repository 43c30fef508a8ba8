pub mod KeyPlaces
pub mod ByBytes
pub mod ByHead
pub mod ByNames
pub mod Sorted
pub mod Numbers
pub mod Putting
