pub mod Texts
pub mod Counts
pub mod Words
pub mod Requests
pub mod Fields
pub mod Pages
