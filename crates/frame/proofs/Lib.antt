-- The laws.
pub mod Sums
pub mod Rows
pub mod Words
pub mod Frames
pub mod Asks
pub mod Places
pub mod Before
