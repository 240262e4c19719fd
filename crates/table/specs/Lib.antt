pub mod Format
pub mod Places
pub mod Opening
pub mod Spots
pub mod Standings
