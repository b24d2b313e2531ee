-- Where an ask makes a thread or process keyring: the state with it, told by the state before.
pub mod Which
pub mod State
pub mod Links
pub mod Lookups
pub mod Nesting
pub mod Searches
