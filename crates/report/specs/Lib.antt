-- The trace's text, and lent room that text is written to.
pub mod Texts
pub mod Rooms
pub mod Worked
