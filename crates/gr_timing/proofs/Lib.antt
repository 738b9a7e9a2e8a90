mod Decided
mod Ended
mod Lists
mod Maps
mod Places
mod Taken
