-- What the calls about a sheet's codes and packets answer, and the one encoding of a sheet.
pub mod Parts
pub mod Encoding
pub mod Worked
