pub mod Ahead
pub mod Target
pub mod Zeros
