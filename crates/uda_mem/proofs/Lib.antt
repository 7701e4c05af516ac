pub mod PutLaws
pub mod WordLaws
pub mod RangeLaws
