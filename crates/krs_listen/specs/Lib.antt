pub mod Accepting
pub mod Clock
pub mod CommandLine
pub mod Choice
pub mod Daemon
pub mod Saying
pub mod Telling
pub mod Timeline
