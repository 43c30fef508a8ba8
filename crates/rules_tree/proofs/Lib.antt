pub mod Texts
pub mod Trees
