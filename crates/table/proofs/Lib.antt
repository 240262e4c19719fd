pub mod Entries
pub mod Laws
pub mod Spots
