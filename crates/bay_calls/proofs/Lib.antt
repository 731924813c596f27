pub mod Means
pub mod Stages
pub mod Searching
pub mod Parts
pub mod Turns
