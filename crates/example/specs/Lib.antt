pub mod driver
pub mod file
