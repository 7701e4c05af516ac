pub mod Layout
pub mod HostPortAgreement
pub mod Posted
pub mod Host
pub mod Slots
pub mod HostInvariant
pub mod Starting
