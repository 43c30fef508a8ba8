pub mod Entries
pub mod HeldLists
pub mod Runs
pub mod Still
pub mod TableReads
pub mod TypeChoices
