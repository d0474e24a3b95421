pub mod Steps
pub mod Places
pub mod LastFirst
pub mod Ranges
