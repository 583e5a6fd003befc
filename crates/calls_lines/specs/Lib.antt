-- What a packet's line tells, and a piece of the trace, by plain numbers.
pub mod Outcomes
