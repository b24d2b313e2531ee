-- That nobody else comes to the keys that a uid has to itself, changes them, or is told of them.
pub mod Keys
pub mod Attachments
pub mod Guarded
pub mod Links
pub mod Steps
pub mod Growth
pub mod Births
pub mod Untouched
pub mod Stays
pub mod Histories
pub mod Flows
