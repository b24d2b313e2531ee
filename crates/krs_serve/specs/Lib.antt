pub mod Sessions
pub mod Visits
pub mod OneDesk
pub mod AtDesk
pub mod Told
