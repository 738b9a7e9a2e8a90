pub mod Lent
pub mod Lengths
pub mod Replacing
pub mod Candidates
pub mod Ranking
pub mod Ordering
