pub mod Groups
pub mod Lists
pub mod Places
pub mod Records
