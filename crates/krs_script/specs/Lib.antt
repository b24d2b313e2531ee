pub mod Ending
pub mod Listing
pub mod Running
pub mod Telling
