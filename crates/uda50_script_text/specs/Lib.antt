pub mod Blanks
pub mod Marks
