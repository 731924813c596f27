pub mod Seen
pub mod Sums
pub mod Admission
pub mod Played
