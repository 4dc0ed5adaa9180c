pub mod Lines
pub mod Tried
pub mod Pairs
