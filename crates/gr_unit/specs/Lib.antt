pub mod Forcing
pub mod Closing
pub mod Strengthening
pub mod GreedyLaws
