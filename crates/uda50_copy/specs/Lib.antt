pub mod Copy
pub mod Status
pub mod Map
pub mod Report
pub mod Reports
pub mod Changes
pub mod Record
pub mod Range
