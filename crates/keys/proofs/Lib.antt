pub mod Codes
pub mod Inserts
pub mod Orders
pub mod Rising
pub mod Searches
pub mod Shifts
