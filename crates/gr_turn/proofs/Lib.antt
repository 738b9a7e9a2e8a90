pub mod Lists
pub mod Places
pub mod Keeping
pub mod Steps
pub mod Ends
pub mod BetweenCalls
pub mod WithinTurns
