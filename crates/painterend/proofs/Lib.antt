pub mod Readiness
pub mod Courses
pub mod Passed
pub mod Printing
pub mod Examples
pub mod Apart
