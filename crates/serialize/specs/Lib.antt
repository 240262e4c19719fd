pub mod Faults
pub mod Objects
pub mod Tables
pub mod Calls
pub mod Laying
pub mod Trees
