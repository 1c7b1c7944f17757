pub mod Pairs
pub mod Table
pub mod Results
pub mod ResultsEntries
pub mod ResultsTracks
