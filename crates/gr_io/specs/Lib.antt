pub mod Pieces
pub mod Memory
pub mod Files
pub mod Repeats
