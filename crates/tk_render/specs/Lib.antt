pub mod Rendered
pub mod Causes
