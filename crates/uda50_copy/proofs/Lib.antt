mod Pairs
mod Walks
pub mod Pieces
pub mod Told
pub mod Losses
pub mod Written
pub mod Gathered
pub mod MapLaws
pub mod Spans
pub mod LastFinished
pub mod NextUnfinished
pub mod Noted
pub mod Ranges
