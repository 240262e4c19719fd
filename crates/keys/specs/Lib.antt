pub mod Orders
pub mod Pairs
pub mod Slots
pub mod Tags
pub mod Texts
