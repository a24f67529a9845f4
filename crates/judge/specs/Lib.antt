pub mod Widths
pub mod Sheets
pub mod Judges
