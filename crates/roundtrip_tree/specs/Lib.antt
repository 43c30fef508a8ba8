pub mod Shows
pub mod Source
pub mod Keys
pub mod ShowsLines
pub mod Types
pub mod Indicators
pub mod Sources
