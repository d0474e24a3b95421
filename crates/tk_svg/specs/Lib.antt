pub mod Document
pub mod Fitting
pub mod Labels
pub mod Paint
pub mod PathData
pub mod Scan
