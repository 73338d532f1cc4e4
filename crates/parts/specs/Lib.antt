pub mod Carry
pub mod Parts
