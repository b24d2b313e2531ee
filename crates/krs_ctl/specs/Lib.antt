pub mod Listing
pub mod Running
pub mod Choice
pub mod CommandLine
pub mod Connecting
pub mod Telling
pub mod Program
