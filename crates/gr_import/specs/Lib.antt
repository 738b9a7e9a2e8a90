pub mod Imports
pub mod Forgetting
