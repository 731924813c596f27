pub mod Lived
pub mod Steps
pub mod Denials
pub mod Lines
