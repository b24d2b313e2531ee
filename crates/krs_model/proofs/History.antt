-- Laws of steps and histories.
pub mod Steps
pub mod Legal
pub mod Determined
pub mod Revocations
pub mod Streams
pub mod Belongings
