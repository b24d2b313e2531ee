pub mod Talking
pub mod Asked
pub mod Remote
pub mod Call
