pub mod Crosses
pub mod CalledLaws
