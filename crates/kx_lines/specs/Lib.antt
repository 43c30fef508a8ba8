pub mod Answer
pub mod EventLines
pub mod Input
pub mod LineParts
pub mod Locating
pub mod Sources
