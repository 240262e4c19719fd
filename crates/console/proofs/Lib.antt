pub mod Adding
pub mod Planes
