-- What a port code means, which links are usable, and what each call about a table answers.
pub mod Codes
pub mod Links
pub mod Answers
pub mod Worked
