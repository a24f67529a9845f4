pub mod Laid
pub mod Choosing
