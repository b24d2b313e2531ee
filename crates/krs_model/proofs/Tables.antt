-- Laws of tables and of tests of lists.
pub mod Changes
pub mod Distinct
pub mod Rising
pub mod Counts
pub mod Tests
pub mod Entries
pub mod Each
