pub mod Bytes
pub mod Pages
pub mod Joining
pub mod Access
pub mod Raised
