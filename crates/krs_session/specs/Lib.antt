pub mod Events
pub mod Session
pub mod Calls
pub mod Alike
pub mod Serving
pub mod Over
pub mod Replies
