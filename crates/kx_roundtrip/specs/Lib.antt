pub mod Again
pub mod Parts
