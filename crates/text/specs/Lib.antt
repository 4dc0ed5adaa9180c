pub mod Report
pub mod Lay
