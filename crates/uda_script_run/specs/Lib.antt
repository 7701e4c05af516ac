pub mod Requests
pub mod Reading
pub mod Texts
pub mod Script
pub mod Lines
pub mod Batches
pub mod Stream
