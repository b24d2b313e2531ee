-- Records, their bytes, and what a queue gives to its reader.
pub mod Called
pub mod Fitting
pub mod Fronts
pub mod QueueNumbers
pub mod Order
pub mod Posts
pub mod Quiet
pub mod Reads
pub mod Taken
pub mod Bytes
pub mod Streams
