pub mod Limits
pub mod Kinds
pub mod Records
pub mod Layout
pub mod Routes
pub mod File
pub mod Image
