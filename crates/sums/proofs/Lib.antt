-- The laws.
pub mod Sums
