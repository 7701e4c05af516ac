pub mod Rows
pub mod Tokens
pub mod DigitValues
pub mod Ascii
pub mod Offsets
pub mod Pieces
pub mod PacketLengths
