-- The laws.
pub mod Parts
pub mod Encoding
