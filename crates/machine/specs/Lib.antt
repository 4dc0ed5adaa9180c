pub mod State
pub mod Reach
pub mod Step
pub mod Raised
pub mod Calls
pub mod Coherence
pub mod Machine
