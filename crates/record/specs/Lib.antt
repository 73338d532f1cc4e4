pub mod State
pub mod Rules
pub mod Deciding
pub mod Promises
