-- The laws.
pub mod Routes
