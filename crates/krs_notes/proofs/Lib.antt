pub mod Guessing
pub mod SpellingLemmas
