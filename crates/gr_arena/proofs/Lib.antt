pub mod Runs
pub mod Changes
pub mod Places
pub mod Steps
pub mod Moved
pub mod Relocating
pub mod Compactions
pub mod MovesRead
