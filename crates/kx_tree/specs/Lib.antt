pub mod Forms
pub mod Values
pub mod Statements
pub mod Geometry
pub mod Sections
pub mod Passing
