pub mod Receptions
pub mod Partly
pub mod Decoded
pub mod Lines
