pub mod Walks
pub mod Named
pub mod Acts
pub mod Results
