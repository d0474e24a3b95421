pub mod Coordinates
pub mod Starts
