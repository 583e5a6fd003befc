-- What a broadcast's rounds are, what the call answers, and how a round is worked out sweep by sweep.
pub mod Broadcasts
pub mod Sweeps
pub mod Worked
