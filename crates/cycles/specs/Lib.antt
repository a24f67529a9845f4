pub mod Steps
pub mod Cycles
pub mod Listings
pub mod Laws
