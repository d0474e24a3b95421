pub mod CurrentPaths
pub mod Measures
pub mod Meshes
pub mod Tracing
