pub mod RegisterLaws
pub mod CopyLaws
pub mod PageLaws
pub mod ShownLaws
pub mod StoredLaws
pub mod CarriedLaws
pub mod TurnLaws
pub mod WordLaws
