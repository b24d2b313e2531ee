pub mod Telling
pub mod Linking
pub mod Served
