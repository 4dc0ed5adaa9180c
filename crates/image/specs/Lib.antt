pub mod Faults
pub mod Records
pub mod Parsed
pub mod Format
