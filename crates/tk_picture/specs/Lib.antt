pub mod Beginnings
pub mod Commands
pub mod Documents
pub mod Outcome
pub mod Progress
pub mod Views
