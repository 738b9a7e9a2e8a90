pub mod Arenas
pub mod ArenaCodes
pub mod Blocks
