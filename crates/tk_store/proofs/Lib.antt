pub mod Maps
pub mod Paths
pub mod Places
pub mod Undoing
pub mod Written
