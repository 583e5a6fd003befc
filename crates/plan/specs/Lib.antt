-- Where the next DCell1 of a hall goes, and which servers are fitted.
pub mod Plan
pub mod Adding
pub mod Answers
pub mod Planned
pub mod Worked
