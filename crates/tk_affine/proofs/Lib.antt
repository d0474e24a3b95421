pub mod Wide
pub mod Lengths
pub mod Regular
pub mod Neutral
pub mod Folds
pub mod Ranges
pub mod Corners
