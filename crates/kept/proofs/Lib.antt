pub mod Covering
pub mod Fills
pub mod Puts
