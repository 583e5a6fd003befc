-- A layout of any number of rows, the words that values make by it, and the values that words have by it.
pub mod Rows
pub mod Worked
