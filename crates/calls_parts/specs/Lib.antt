-- How a link is told by plain numbers.
pub mod Outcomes
