pub mod Anew
pub mod Served
pub mod Results
