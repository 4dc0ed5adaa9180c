pub mod Coherence
pub mod Fetching
pub mod Stepping
pub mod Going
pub mod Retaining
pub mod Running
pub mod Placing
pub mod Setting
