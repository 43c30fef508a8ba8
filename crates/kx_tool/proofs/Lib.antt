pub mod Answering
pub mod Ends
pub mod PrintedAgain
pub mod SessionLemmas
pub mod Written
