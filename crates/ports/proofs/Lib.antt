-- The laws.
pub mod Tables
pub mod Links
pub mod Parts
pub mod Runs
