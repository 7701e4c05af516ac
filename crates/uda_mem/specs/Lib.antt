pub mod Limits
pub mod Put
pub mod Words
pub mod Slices
pub mod Windows
pub mod Ranges
