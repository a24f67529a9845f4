pub mod Lists
pub mod Content
pub mod Sound
pub mod Entries
