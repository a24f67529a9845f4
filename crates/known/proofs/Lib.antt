pub mod Numbers
pub mod Cycles
pub mod Listings
pub mod Placements
pub mod Deciding
pub mod Table
