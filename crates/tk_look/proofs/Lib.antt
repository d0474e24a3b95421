pub mod DashCounts
pub mod MadeBySteps
pub mod Parentheses
pub mod Places
pub mod Splitting
pub mod Tables
pub mod Ranges
