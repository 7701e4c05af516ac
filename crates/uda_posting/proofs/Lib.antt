pub mod LedgerSteps
pub mod Serving
pub mod Seemings
pub mod Posts
pub mod Owing
pub mod Ending
