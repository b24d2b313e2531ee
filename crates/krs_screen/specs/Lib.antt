pub mod Front
pub mod Claim
pub mod Counting
pub mod Step
pub mod Reading
pub mod Run
