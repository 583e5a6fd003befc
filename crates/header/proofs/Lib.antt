-- The laws.
pub mod Written
pub mod Same
pub mod Changes
pub mod RoundTrip
pub mod Encoding
pub mod Noise
