-- What a hall is, how its servers are numbered, and what a call is refused by.
pub mod Refusals
pub mod Rooms
pub mod Cells
pub mod Halls
pub mod Tuples
pub mod Answers
pub mod Worked
