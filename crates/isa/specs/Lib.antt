pub mod Arithmetic
pub mod Decode
pub mod Fields
