pub mod Made
pub mod Sides
pub mod Lent
