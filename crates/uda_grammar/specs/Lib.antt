pub mod Limit
pub mod Parts
pub mod Words
pub mod Amounts
pub mod Forms
pub mod Reading
pub mod Texts
pub mod Display
