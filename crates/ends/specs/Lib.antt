-- The table that a step is lent, and what the call that writes it answers.
pub mod Tables
pub mod Answers
pub mod Filling
pub mod Worked
