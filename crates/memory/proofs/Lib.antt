pub mod Widths
pub mod Words
pub mod Whole
pub mod Seams
pub mod Ranges
