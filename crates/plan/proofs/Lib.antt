pub mod Shown
pub mod View
pub mod Says
pub mod Codes
pub mod ResultsImage
pub mod ResultsKinds
pub mod ResultsLimits
