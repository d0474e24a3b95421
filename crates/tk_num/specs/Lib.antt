pub mod Angle
pub mod Number
pub mod Text
pub mod Unit
