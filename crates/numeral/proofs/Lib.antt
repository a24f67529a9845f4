mod Figures
pub mod Laws
mod Spaces
mod Spelling
