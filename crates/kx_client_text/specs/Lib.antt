pub mod ClientText
pub mod Written
