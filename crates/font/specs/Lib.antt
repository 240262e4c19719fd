pub mod Numbers
pub mod Directory
pub mod Tables
