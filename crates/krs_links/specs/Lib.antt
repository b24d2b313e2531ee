pub mod Indexed
pub mod Kept
pub mod Links
pub mod Lists
pub mod Seeded
