-- What an exported call about a hall returns and leaves in its room.
pub mod Outcomes
