pub mod Fates
pub mod Features
