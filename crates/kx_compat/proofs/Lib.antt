mod Firsts
mod Kept
mod Parting
pub mod Same
mod Behind
mod Lasting
mod Listed
mod Offering
mod Single
