-- What a search by rounds is, and what its marks mean.
pub mod Rounds
pub mod Reach
pub mod Worked
