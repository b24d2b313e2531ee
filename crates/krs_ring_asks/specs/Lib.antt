pub mod Found
pub mod Beside
pub mod Detached
pub mod Moved
