-- The records of watch queues: their bytes, filters of them, and what a queue of them gives to its reader.
pub mod Bytes
pub mod Filter
pub mod Stream
pub mod Waiting
pub mod Posting
pub mod Front
pub mod Telling
