pub mod Program
pub mod Turn
pub mod Course
