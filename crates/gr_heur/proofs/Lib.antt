pub mod Sliding
pub mod Membership
pub mod Dropping
pub mod Fresh
pub mod Bumping
pub mod Picking
pub mod Settling
