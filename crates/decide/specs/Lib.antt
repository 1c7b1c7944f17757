pub mod Along
pub mod Single
pub mod Chain
pub mod Lent
