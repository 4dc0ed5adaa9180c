pub mod Reading
pub mod Frames
pub mod Accepted
