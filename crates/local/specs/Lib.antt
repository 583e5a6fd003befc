-- What a local distance and a local next hop are, and what each call about them answers.
pub mod Lowest
pub mod Local
pub mod Looks
pub mod Answers
pub mod Worked
