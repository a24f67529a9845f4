pub mod Lists
pub mod Growing
pub mod Reading
pub mod Runs
pub mod Counting
pub mod Ranges
pub mod Agreeing
pub mod Unique
pub mod Fitting
pub mod Inserting
pub mod Filling
pub mod Somewhere
pub mod Trying
pub mod Outcomes
mod Unlinked
