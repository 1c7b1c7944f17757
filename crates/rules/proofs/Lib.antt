pub mod Computed
pub mod Meaning
pub mod Notions
pub mod Numbered
pub mod Own
pub mod Verdicts
