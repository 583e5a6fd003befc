-- What each call about a server's place in a hall answers.
pub mod Answers
pub mod Worked
