pub mod Lists
pub mod Walks
pub mod Searching
pub mod Seeking
