pub mod Laid
pub mod Fits
pub mod Somewhere
pub mod First
pub mod Indexes
pub mod Left
pub mod Walking
