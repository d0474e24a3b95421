pub mod Entries
pub mod Handlers
pub mod KeyParts
pub mod Parts
pub mod Paths
