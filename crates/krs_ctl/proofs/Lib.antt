pub mod CommandLineLemmas
pub mod ListingLemmas
pub mod TellingLemmas
