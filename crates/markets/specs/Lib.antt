pub mod Numbers
pub mod Conditions
