pub mod Meets
pub mod Phases
pub mod Words
pub mod Book
pub mod Demand3
pub mod Idle
