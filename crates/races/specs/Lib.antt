pub mod Races
pub mod Partners
