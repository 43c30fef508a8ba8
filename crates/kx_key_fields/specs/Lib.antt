pub mod Ranges
pub mod Words
pub mod VirtualMasks
pub mod Attributes
pub mod AttributeFields
pub mod KeyFields
pub mod TypesMoved
