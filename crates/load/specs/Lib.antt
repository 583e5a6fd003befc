-- What is counted of routes, the figures, and how evenly the load falls.
pub mod Counts
pub mod Figures
pub mod Evenly
pub mod Worked
