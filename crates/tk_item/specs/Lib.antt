pub mod Frame
pub mod Lengths
