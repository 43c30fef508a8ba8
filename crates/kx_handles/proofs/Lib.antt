pub mod KeymapHandleValues
pub mod KeyboardHandleValues
pub mod FollowerHandleValues
pub mod NamesHandleValues
