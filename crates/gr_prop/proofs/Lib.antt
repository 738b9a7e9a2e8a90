pub mod TrailSets
mod Kept
pub mod Closed
pub mod Stores
mod Sound
mod Counts
mod WalkSteps
mod Moves
mod Rounds
pub mod Facts
mod Endings
mod PairLists
mod Passing
mod Stepping
mod Keeping
mod Finding
mod IdEntries
mod Deciding
mod Arranging
mod Forcing
mod Attaching
mod Adding
mod Arrivals
mod Detaching
mod Removing
mod Settling
mod IdOrder
mod Mapped
mod MovedClauses
mod MovedPairs
mod Compacted
mod MovedLists
pub mod Founded
pub mod Lookups
pub mod Models
pub mod Learned
pub mod MovedIds
pub mod Short
