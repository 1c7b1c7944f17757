pub mod Roomy
pub mod Zeros
pub mod Rooms
pub mod Standing
pub mod Results
