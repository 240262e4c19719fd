pub mod Sets
pub mod Stages
pub mod Joins
pub mod Systems
pub mod Context
pub mod Numbers
pub mod Numbering
pub mod Chains
