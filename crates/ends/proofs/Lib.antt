-- The laws.
pub mod Spread
pub mod Codes
pub mod Answers
pub mod Counts
pub mod Tables
pub mod Lent
