-- What private contracts alone cite.
pub mod Marks
pub mod Passes
pub mod Courses
