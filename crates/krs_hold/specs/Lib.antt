pub mod Tally
pub mod Chain
pub mod Taken
pub mod Told
