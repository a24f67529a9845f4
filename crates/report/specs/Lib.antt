pub mod Pages
pub mod Texts
pub mod Reports
pub mod Flat
pub mod Printing
pub mod Tallies
pub mod Files
