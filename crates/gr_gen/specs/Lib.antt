pub mod OddRings
pub mod Pigeonholes
