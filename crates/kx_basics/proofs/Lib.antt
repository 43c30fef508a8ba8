mod Growing
pub mod KeyBytes
