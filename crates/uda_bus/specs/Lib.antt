pub mod Longs
pub mod Lookup
pub mod Bytes
pub mod Copy
pub mod Pieces
pub mod Turns
