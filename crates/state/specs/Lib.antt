pub mod Holds
pub mod State
pub mod Cells
pub mod Once
