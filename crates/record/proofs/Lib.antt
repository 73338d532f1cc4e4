pub mod Holding
pub mod OneOutcome
pub mod Crosses
pub mod Finding
pub mod Storing
pub mod Ruling
pub mod Sums
