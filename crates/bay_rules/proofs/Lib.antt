pub mod Refusals
pub mod Living
pub mod Starting
pub mod Replaying
pub mod Settling
pub mod Openings
pub mod OneAnswer
