pub mod Demands
pub mod Impostors
pub mod Ours
pub mod Session
pub mod Table
