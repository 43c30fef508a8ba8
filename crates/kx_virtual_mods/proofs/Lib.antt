mod Adding
pub mod Bits
mod Distinct
mod Going
mod Keyed
mod Numbered
mod Offering
mod Reached
mod There
