pub mod Labels
pub mod Denials
pub mod Sizes
