-- What a frame's header is, and how it is read.
pub mod Layout
pub mod Checksum
pub mod Addresses
pub mod Asks
pub mod Places
pub mod Reading
pub mod Before
pub mod Worked
