pub mod Levels
pub mod Bodies
pub mod Items
pub mod Kept
pub mod Paths
pub mod Undo
