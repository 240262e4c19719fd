pub mod Cuts
pub mod Ranges
pub mod Tags
