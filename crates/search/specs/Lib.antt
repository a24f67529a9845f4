pub mod Orders
pub mod Found
