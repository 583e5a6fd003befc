-- The laws.
pub mod Openings
pub mod Journeys
pub mod Accepted
pub mod Lines
pub mod Pieces
