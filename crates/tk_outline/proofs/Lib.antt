pub mod Meshing
pub mod Tracing
