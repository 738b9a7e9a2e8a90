pub mod Counting
pub mod Growth
pub mod Sizes
pub mod Alternating
pub mod Crowded
