pub mod Keysyms
pub mod KeyNames
