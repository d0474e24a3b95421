pub mod PartCounts
pub mod Pieces
pub mod Slashes
pub mod Styles
