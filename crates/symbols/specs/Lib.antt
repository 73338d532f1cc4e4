pub mod State
pub mod Answers
pub mod Registering
pub mod Turns
pub mod Promises
