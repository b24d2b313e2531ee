-- What keyrings reach: levels, cycles, searches.
pub mod Levels
pub mod Acyclic
pub mod Cycles
pub mod Searches
