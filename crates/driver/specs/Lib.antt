-- What each call for the driver returns, and the bytes that it leaves in its room.
pub mod Outcomes
