pub mod Counts
pub mod Tested
pub mod Widths
pub mod Lists
pub mod Orders
pub mod Judgements
