pub mod Meaning
pub mod Layers
pub mod Orders
pub mod Telling
pub mod Layered
pub mod Either
pub mod Growing
