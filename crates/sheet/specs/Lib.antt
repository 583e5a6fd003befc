-- What a night sheet is, field by field, and what reading one answers.
pub mod Formats
pub mod Sheets
pub mod Answers
pub mod Faults
pub mod Accepted
pub mod Worked
