pub mod Words
pub mod Commands
pub mod Lines
pub mod Run
pub mod Refused
pub mod Endings
pub mod HostWords
