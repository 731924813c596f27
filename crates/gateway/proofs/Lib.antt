pub mod Due
pub mod Held
pub mod Verdicts
pub mod Readings
pub mod OneOutcome
