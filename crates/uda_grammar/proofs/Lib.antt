pub mod Cutting
pub mod Numbers
pub mod Fields
pub mod Scripts
pub mod WordLaws
pub mod FormLaws
pub mod Lengths
pub mod Lines
