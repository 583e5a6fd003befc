-- What an exported call about a packet returns and leaves in its room.
pub mod Outcomes
