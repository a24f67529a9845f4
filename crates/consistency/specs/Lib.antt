pub mod Consistency
