pub mod Views
pub mod Seats
pub mod Turns
pub mod Queues
pub mod Told
pub mod Midway
pub mod Lending
