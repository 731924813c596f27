pub mod Rules
pub mod Law
pub mod Lived
pub mod Steps
pub mod Replay
