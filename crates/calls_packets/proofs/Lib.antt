-- The laws of two rooms; the others stand in the crates that are called.
pub mod TwoRooms
