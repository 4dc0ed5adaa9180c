pub mod Word
pub mod Info
pub mod Table
pub mod Sizes
pub mod Slots
pub mod Order
pub mod Raised
