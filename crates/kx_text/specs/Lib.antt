pub mod Case
pub mod CaseRuns
pub mod Characters
pub mod Finding
pub mod FirstKeysym
pub mod OlderCharacters
pub mod Typing
