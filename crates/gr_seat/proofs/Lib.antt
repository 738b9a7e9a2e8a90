mod Alone
mod DrivingOut
mod Held
pub mod Later
pub mod Made
mod Runs
