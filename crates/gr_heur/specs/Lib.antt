pub mod Orders
pub mod Queues
pub mod Stored
pub mod Windows
pub mod Laws
