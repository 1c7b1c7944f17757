pub mod Events
pub mod Answers
pub mod Decide
pub mod After
pub mod Meaning
