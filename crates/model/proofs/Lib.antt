pub mod Rows
pub mod Places
pub mod Sweeps
pub mod Parts
pub mod Threads
pub mod Links
