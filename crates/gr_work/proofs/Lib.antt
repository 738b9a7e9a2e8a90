pub mod Best
pub mod Rankings
pub mod Entries
pub mod Fresh
