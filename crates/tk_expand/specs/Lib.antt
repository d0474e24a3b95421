pub mod Arguments
pub mod Expand
pub mod Reading
pub mod Stack
pub mod Stops
pub mod Tells
pub mod Texts
pub mod Unread
