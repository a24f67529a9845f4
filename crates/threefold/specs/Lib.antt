pub mod Threefold
pub mod Kept
