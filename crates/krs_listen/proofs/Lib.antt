pub mod CommandLineLemmas
pub mod EndLemmas
pub mod TellingLemmas
