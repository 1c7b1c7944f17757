pub mod Holds
pub mod Formed
pub mod Parts
pub mod Lent
pub mod Results
pub mod ResultsCells
pub mod ResultsForm
