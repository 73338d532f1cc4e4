pub mod Columns
pub mod Printing
pub mod Printout
pub mod Laying
pub mod Marked
pub mod Levels
