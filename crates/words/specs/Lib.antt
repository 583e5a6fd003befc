-- Numbers as big-endian bytes, and bytes at a place of lent room.
pub mod Words
pub mod Rooms
pub mod Worked
