pub mod Tokens
pub mod Places
pub mod Scans
pub mod Stands
pub mod Laws
pub mod Printing
pub mod Numerals
