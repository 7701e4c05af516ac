pub mod Writes
pub mod TextLaws
pub mod WrittenLaws
pub mod GuestTexts
