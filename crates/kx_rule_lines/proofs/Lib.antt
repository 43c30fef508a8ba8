pub mod Cutting
pub mod InWords
pub mod Scanning
pub mod Words
