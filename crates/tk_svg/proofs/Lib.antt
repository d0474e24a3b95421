pub mod Documents
pub mod Fits
pub mod Labels
pub mod Numbers
pub mod Unique
