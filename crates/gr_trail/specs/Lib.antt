pub mod Trails
pub mod Columns
pub mod Laws
