-- What an exported call about the DCell1s of a hall returns and leaves in its room.
pub mod Outcomes
