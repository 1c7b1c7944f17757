pub mod Lengths
pub mod Writes
pub mod Answers
pub mod Results
pub mod ResultsSections
pub mod ResultsSize
