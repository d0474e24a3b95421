pub mod Borders
pub mod Anchors
pub mod Nodes
