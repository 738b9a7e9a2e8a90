pub mod Bits
pub mod Pairs
