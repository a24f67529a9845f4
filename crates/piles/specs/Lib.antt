pub mod Piles
pub mod OfPile
