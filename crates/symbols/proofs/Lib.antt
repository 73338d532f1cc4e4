pub mod Sizes
pub mod Entries
pub mod Padding
pub mod Naming
pub mod Finding
pub mod Entering
pub mod Altering
pub mod OneOutcome
