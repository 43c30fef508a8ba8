pub mod KeyPlaces
pub mod Lending
pub mod Members
pub mod Names
pub mod Numbers
pub mod Sorted
