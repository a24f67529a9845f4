pub mod Soundness
pub mod Behind
pub mod Next
pub mod Stored
