pub mod Commands
pub mod Meanings
pub mod Calls
pub mod Cases
pub mod FileNames
pub mod Examples
