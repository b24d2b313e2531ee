pub mod Entry
pub mod Command
