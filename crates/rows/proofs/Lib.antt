-- The laws.
pub mod Row
pub mod Rows
pub mod Places
