pub mod Making
pub mod Graphs
pub mod Cases
