pub mod Slots
pub mod Startings
pub mod Hosts
pub mod Turns
pub mod Asking
