pub mod Hexadecimal
pub mod Probe
pub mod Statuses
