pub mod Reader
pub mod Feed
pub mod Book
pub mod Demand3
