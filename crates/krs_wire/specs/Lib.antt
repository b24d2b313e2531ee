pub mod Field
pub mod Tag
pub mod Faulting
pub mod Bodies
pub mod Frame
pub mod Encoding
pub mod Feeding
pub mod Reply
