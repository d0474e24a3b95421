pub mod Plain
pub mod Presentations
pub mod Ranges
pub mod Values
