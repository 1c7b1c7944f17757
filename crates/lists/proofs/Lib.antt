pub mod Walks
pub mod Results
