pub mod Words
pub mod Lines
pub mod Parsed
pub mod Number
pub mod Printing
pub mod Stop
pub mod Writing
pub mod Saying
