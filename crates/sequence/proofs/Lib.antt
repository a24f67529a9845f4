pub mod Rotated
pub mod Fits
