pub mod Sizes
pub mod Format
pub mod Held
pub mod Builtin
pub mod Standings
