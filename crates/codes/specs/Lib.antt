pub mod Codes
pub mod Decoding
