-- How a header is written.
pub mod Writing
pub mod Worked
