pub mod Coded
pub mod Fits
pub mod Decoded
pub mod Results
