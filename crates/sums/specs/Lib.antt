-- The definitions that counting is stated by.
pub mod Sums
