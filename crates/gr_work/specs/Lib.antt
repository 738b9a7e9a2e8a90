pub mod WorkSets
pub mod Ranks
pub mod Sound
pub mod Laws
