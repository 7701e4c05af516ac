pub mod Drives
pub mod Blanks
pub mod Slots
pub mod BufferTableInvariant
pub mod Drivings
pub mod Loads
pub mod Underways
mod Told
pub mod Spans
pub mod SureLaw
