pub mod Sums
pub mod Parities
pub mod Turns
pub mod Blocks
pub mod Partly
pub mod Widths
