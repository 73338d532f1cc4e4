pub mod Digits
pub mod Holding
pub mod Lengths
pub mod OneOutcome
