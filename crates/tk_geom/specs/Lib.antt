pub mod Pieces
pub mod Circles
pub mod Rectangles
pub mod Arcs
pub mod GridLines
pub mod Grids
pub mod GridViews
pub mod Segments
