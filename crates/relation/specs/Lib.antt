pub mod Table
pub mod Sequences
