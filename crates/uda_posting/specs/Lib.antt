pub mod Ledger
pub mod Posting
pub mod UpToData
pub mod Outstanding
