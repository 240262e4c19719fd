pub mod Varied
pub mod Alike
pub mod Kept
