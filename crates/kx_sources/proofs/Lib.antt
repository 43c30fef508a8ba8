pub mod GatheringHandleValues
pub mod LeftHandleValues
pub mod SourceHandleValues
pub mod WordsHandleValues
