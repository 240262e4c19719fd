pub mod Kinds
pub mod Standings
pub mod Reading
pub mod Questions
pub mod Refusals
