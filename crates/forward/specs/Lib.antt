-- What a forwarding step and a journey are, and what each call answers.
pub mod Packets
pub mod Seen
pub mod Proxies
pub mod Steps
pub mod Endings
pub mod Reroutes
pub mod Journeys
pub mod Travels
pub mod Before
pub mod Answers
pub mod Inside
pub mod Worked
