-- The laws.
pub mod Asks
pub mod Ranges
pub mod Stated
pub mod Wide
