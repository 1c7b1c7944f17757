pub mod Digits
pub mod Runs
pub mod Printed
pub mod Shown
pub mod Most
pub mod Reread
pub mod Results
pub mod ResultsText
