-- The laws.
pub mod Rooms
pub mod Words
pub mod Bytes
