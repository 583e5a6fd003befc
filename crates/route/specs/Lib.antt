-- What a route is, and what each call about routes answers.
pub mod Routes
pub mod Walks
pub mod Answers
pub mod Filling
pub mod Delivery
pub mod Worked
