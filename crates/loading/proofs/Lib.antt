pub mod Copying
pub mod Filling
pub mod Steps
pub mod Stored
pub mod Results
pub mod ResultsStore
