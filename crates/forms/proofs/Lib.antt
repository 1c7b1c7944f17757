pub mod Fits
pub mod Once
pub mod Sections
pub mod Meaning
pub mod Rows
pub mod Longest
