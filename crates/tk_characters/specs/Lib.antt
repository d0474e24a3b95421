pub mod Characters
pub mod Options
pub mod Words
