pub mod Images
pub mod Steps
pub mod Inverses
pub mod Directions
pub mod Faults
