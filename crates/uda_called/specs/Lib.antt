pub mod Lies
pub mod LendsBytes
pub mod CalledImage
