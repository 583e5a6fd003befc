-- The answers about sheets, as a refusal's number and their other values in order.
pub mod Outcomes
