pub mod Words
pub mod Same
pub mod Unwinding
pub mod Appended
