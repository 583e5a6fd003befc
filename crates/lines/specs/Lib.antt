-- What the trace of a sheet says, line by line and piece by piece.
pub mod Traces
pub mod Worked
