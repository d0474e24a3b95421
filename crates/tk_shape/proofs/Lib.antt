pub mod Parts
pub mod NamesGiven
pub mod Centres
pub mod Within
