pub mod EventLemmas
pub mod Lines
pub mod Listings
pub mod Reading
pub mod ReadingSources
pub mod TailTexts
pub mod Waits
