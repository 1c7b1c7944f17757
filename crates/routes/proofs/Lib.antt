pub mod Paths
pub mod Ways
pub mod Results
